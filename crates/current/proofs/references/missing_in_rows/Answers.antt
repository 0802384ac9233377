use Rattle.std.proofs.Common.{◌∙◌, ap, map, option_map, sym}
use Rattle.sqlread.specs.Meaning.{reference_of}
use Rattle.current.specs.Places.{rows_at}
use Rattle.current.specs.Table.{rows_of_table}
use Rattle.current.proofs.Orphans.{row_misses}
use Rattle.current.proofs.references.missing_in_rows.Goals as goal

pub returns-in-Some : goal.returns-in-Some
returns-in-Some c =
    let table = c.args.table.now in
    let place = c.args.place in
    let references = map (reference_of place table) table.references in
    let day = c.in-Some.day in
    let misses = sym c.in_ok-day.ensures.day ∙ ap (option_map (λ d. d.number)) c.in-Some.is in
    sym (row_misses references (rows_at rows_of_table c.args.tables.now) place c.args.rows.now c.loop-row.row-index c.row-item.result day.number c.loop-row-test.true c.row-item.is misses) ∙ c.loop-row.invariant
