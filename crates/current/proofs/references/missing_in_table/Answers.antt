use Rattle.std.proofs.Common.{◌≡◌, ◌∙◌, ap, sym, subst, option_map, []}
use Rattle.std.specs.Prelude.{IfOk}
use Rattle.std.specs.Option.{option_map_or}
use Rattle.rowlaws.specs.Covering.{missing_in_rows}
use Rattle.sqlread.specs.Meaning.{references_from}
use Rattle.current.specs.Orphans.{place_of}
use Rattle.current.specs.Places.{rows_at}
use Rattle.current.specs.Table.{rows_of_table}
use Rattle.current.proofs.Orphans.{rows_of_table_miss}
use Rattle.current.proofs.Tabled.{rows_at-got}
use Rattle.current.proofs.references.missing_in_table.Goals as goal

pub returns-in-Some : goal.returns-in-Some
returns-in-Some c =
    let schema = c.args.schema.now in
    let place = c.args.place in
    let all = rows_at rows_of_table c.args.tables.now in
    let rows = sym (ap (λ o. option_map_or rows_of_table o []) c.in-Some.ensures) in
    let got = sym rows ∙ sym (rows_at-got rows_of_table c.args.tables.now place) in
    subst (λ first. IfOk c.missing_in_strands.result (λ found. option_map place_of found ≡ first))
    (sym (rows_of_table_miss schema place _ _ all _ c.table.ensures.table) ∙ ap (missing_in_rows (references_from 0 schema) all place) got)
    c.missing_in_strands.ensures

pub returns-in-None : goal.returns-in-None
returns-in-None c =
    let schema = c.args.schema.now in
    let place = c.args.place in
    let all = rows_at rows_of_table c.args.tables.now in
    ap (missing_in_rows (references_from 0 schema) all place) (ap (λ o. option_map_or rows_of_table o []) c.in-None.ensures ∙ sym (rows_at-got rows_of_table c.args.tables.now place))
