use Rattle.std.proofs.Common.{◌≡◌, ◌++◌, drop}
use Rattle.sqlread.specs.Meaning.{values_at}
use Rattle.current.specs.Rows.{row_of}
use Rattle.current.proofs.references.referred_key.Given as goal

abbrev pub invariant-loop-column : goal.invariant-loop-column
invariant-loop-column l =
    l.values.items ++ values_at l.table (drop l.column-index l.columns) l.row.key (row_of l.row).values ≡ values_at l.table l.columns l.row.key (row_of l.row).values
