use Rattle.std.proofs.Common.{ℕ, ◌+◌, ◌<◌, ◌≤◌, ◌^◌, List, length, map, drop, filter}
use Rattle.model.specs.Tables.{Row}
use Rattle.rowlaws.specs.Losing.{has_lost_day}
use Rattle.current.specs.Rows.{row_of}
use Rattle.current.specs.Places.{rows_at}
use Rattle.current.specs.Reads.{total, searching}
use Rattle.current.specs.Suspects.{IsOfLost}
use Rattle.current.specs.Table.{rows_of_table}
use Rattle.current.proofs.Looking.{IsLostTo}
use Rattle.current.proofs.suspects.lost_with.Given as goal

abbrev pub invariant-loop-row : goal.invariant-loop-row
invariant-loop-row l =
    let all = rows_at rows_of_table l.tables in
    let cost = λ (digits : ℕ) (rows : List Row). total (λ q. searching digits q.key q.period (all l.table)) rows in
    record {
      each : IsLostTo l.removed (all l.table) l.row-index l.lost;
      of_lost : IsOfLost (filter (has_lost_day (all l.table)) (map row_of l.removed)) l.lost;
      few : (digits : ℕ) → ((n : ℕ) → length (all n) < 2 ^ digits) → l.count + cost digits (map row_of (drop l.row-index l.removed)) ≤ l.fn.count + cost digits (map row_of l.removed);
    }
