use Rattle.std.proofs.Common.{◌≡◌, ℕ, ◌-◌, List, length}
use Rattle.std.specs.List.{range_with_len}
use Rattle.rowlaws.specs.Covering.{missing_in_tables}
use Rattle.sqlread.specs.Meaning.{references_from}
use Rattle.current.specs.Places.{rows_at}
use Rattle.current.specs.Table.{rows_of_table}
use Rattle.current.proofs.references.first_orphan.Given as goal

abbrev pub invariant-loop-place : goal.invariant-loop-place
invariant-loop-place l =
    let first = λ (numbers : List ℕ). missing_in_tables (references_from 0 l.schema) (rows_at rows_of_table l.tables) numbers in
    first (range_with_len l.place (length l.schema - l.place)) ≡ first (range_with_len 0 (length l.schema))
