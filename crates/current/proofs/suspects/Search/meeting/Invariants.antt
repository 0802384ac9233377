use Rattle.std.proofs.Common.{ℕ, ◌+◌, ◌<◌, ◌≤◌, ◌^◌, length, map, option_map}
use Rattle.std.specs.List.Sorted.{IsStrictlySortedBy}
use Rattle.model.specs.Values.{key_cmp}
use Rattle.rowlaws.specs.Rows.{Has}
use Rattle.sqlread.specs.Meaning.{values_at}
use Rattle.current.specs.ByKey.{rows_in}
use Rattle.current.specs.Table.{rows_of_table}
use Rattle.current.specs.Orphans.{place_of}
use Rattle.current.specs.Reads.{seeking}
use Rattle.current.specs.Suspects.{rows_by, references_by, meets_span, refers_among}
use Rattle.current.proofs.Planning.{Entry}
use Rattle.current.proofs.Looking.{LooksTo}
use Rattle.current.proofs.suspects.Search.meeting.Given as goal

abbrev pub invariant-loop-strand : goal.invariant-loop-strand
invariant-loop-strand l = record {
  looks : LooksTo l.self (λ r. Has (rows_of_table l.rows) r × Has l.keys.keys (values_at l.self.table.now l.columns r.key r.values) × (r.period.start < l.span.end.number) × (l.span.start.number < r.period.end)) (λ r. Has (rows_in l.strand-iterator) r) (option_map place_of l.fn.before) (option_map place_of l.found);
  entries : (e : Entry) → Has l.strand-iterator e → Has l.rows.index.strands.entries e;
  sorted : IsStrictlySortedBy key_cmp (map (λ (e : Entry). e.0) l.strand-iterator);
  few : (digits : ℕ) → ((n : ℕ) → length (rows_by l.self n) < 2 ^ digits) →
      l.count + seeking digits (rows_by l.self) (references_by l.self) (meets_span l.span) (refers_among l.self.table.now l.columns l.keys.keys) (rows_in l.strand-iterator)
      ≤ l.fn.count + seeking digits (rows_by l.self) (references_by l.self) (meets_span l.span) (refers_among l.self.table.now l.columns l.keys.keys) (rows_of_table l.rows);
}
