use Rattle.std.proofs.Common.{ℕ, ◌+◌, ◌<◌, ◌≤◌, ◌^◌, cond, List, length, map, drop, option_map}
use Rattle.model.specs.Tables.{Row}
use Rattle.rowlaws.specs.Rows.{Has}
use Rattle.sqlread.specs.Meaning.{values_at}
use Rattle.current.specs.Rows.{row_of}
use Rattle.current.specs.Orphans.{place_of}
use Rattle.current.specs.Reads.{total, judging}
use Rattle.current.specs.Suspects.{rows_by, references_by, refers_among}
use Rattle.current.proofs.Looking.{LooksTo}
use Rattle.current.proofs.suspects.Search.referring.Given as goal

abbrev pub invariant-loop-row : goal.invariant-loop-row
invariant-loop-row l =
    let cost = λ (digits : ℕ) (rows : List Row). total (λ r. cond (refers_among l.self.table.now l.columns l.keys.keys r) (judging digits (rows_by l.self) (references_by l.self) r) 0) rows in
    record {
      looks : LooksTo l.self (λ r. Has (map row_of l.rows) r × Has l.keys.keys (values_at l.self.table.now l.columns r.key r.values)) (λ r. Has (map row_of (drop l.row-index l.rows)) r) (option_map place_of l.fn.before) (option_map place_of l.found);
      few : (digits : ℕ) → ((n : ℕ) → length (rows_by l.self n) < 2 ^ digits) → l.count + cost digits (map row_of (drop l.row-index l.rows)) ≤ l.fn.count + cost digits (map row_of l.rows);
    }
