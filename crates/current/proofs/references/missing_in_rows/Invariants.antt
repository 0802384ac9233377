use Rattle.std.proofs.Common.{◌≡◌, map, drop}
use Rattle.rowlaws.specs.Covering.{missing_in_rows}
use Rattle.sqlread.specs.Meaning.{reference_of}
use Rattle.current.specs.Rows.{row_of}
use Rattle.current.specs.Places.{rows_at}
use Rattle.current.specs.Table.{rows_of_table}
use Rattle.current.proofs.references.missing_in_rows.Given as goal

abbrev pub invariant-loop-row : goal.invariant-loop-row
invariant-loop-row l =
    let references = map (reference_of l.place l.table) l.table.references in
    let all = rows_at rows_of_table l.tables in
    missing_in_rows references all l.place (map row_of (drop l.row-index l.rows)) ≡ missing_in_rows references all l.place (map row_of l.rows)
