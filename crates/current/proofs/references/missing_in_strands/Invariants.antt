use Rattle.std.proofs.Common.{◌≡◌, List, map}
use Rattle.model.specs.Tables.{Row}
use Rattle.rowlaws.specs.Covering.{missing_in_rows}
use Rattle.sqlread.specs.Meaning.{reference_of}
use Rattle.current.specs.ByKey.{rows_in}
use Rattle.current.specs.Places.{rows_at}
use Rattle.current.specs.Table.{rows_of_table}
use Rattle.current.proofs.references.missing_in_strands.Given as goal

abbrev pub invariant-loop-rows : goal.invariant-loop-rows
invariant-loop-rows l =
    let first = λ (rows : List Row). missing_in_rows (map (reference_of l.place l.table) l.table.references) (rows_at rows_of_table l.tables) l.place rows in
    first (rows_in l.rows-iterator) ≡ first (rows_in l.strands.entries)
