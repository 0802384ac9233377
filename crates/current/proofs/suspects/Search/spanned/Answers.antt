use Rattle.std.proofs.Common.{◌∙◌, ap, sym, subst, List, [], arith}
use Rattle.std.specs.Option.{option_map_or}
use Rattle.model.specs.Tables.{Row}
use Rattle.rowlaws.specs.Rows.{Has}
use Rattle.current.specs.Reads.{seeking}
use Rattle.current.specs.Suspects.{rows_by, references_by, meets_span, refers_among}
use Rattle.current.specs.Table.{rows_of_table}
use Rattle.current.proofs.Tabled.{rows_at-got}
use Rattle.current.proofs.Looking.{ok_looks, looks_none}
use Rattle.current.proofs.suspects.Search.spanned.Goals as goal

pub meeting-requires : goal.meeting-requires
meeting-requires c =
    let s = c.args.self.now in
    ap (λ o. option_map_or rows_of_table o []) c.in-Some.ensures ∙ sym (rows_at-got rows_of_table s.tables.now s.place)

pub returns-in-Some-clause-looks : goal.returns-in-Some-clause-looks
returns-in-Some-clause-looks c =
    let s = c.args.self.now in
    let same = ap (λ o. option_map_or rows_of_table o []) c.in-Some.ensures ∙ sym (rows_at-got rows_of_table s.tables.now s.place) in
    ok_looks s _ _ _ c.meeting.result c.meeting.ensures.looks (λ r w. (subst (λ (all : List Row). Has all r) (sym same) w.0, w.1, w.2, w.3))

pub returns-in-None-clause-looks : goal.returns-in-None-clause-looks
returns-in-None-clause-looks c =
    let s = c.args.self.now in
    let none = rows_at-got rows_of_table s.tables.now s.place ∙ sym (ap (λ o. option_map_or rows_of_table o []) c.in-None.ensures) in
    looks_none s _ _ (λ r w. subst (λ (all : List Row). Has all r) none w.0)

pub returns-in-Some-clause-few : goal.returns-in-Some-clause-few
returns-in-Some-clause-few c digits short =
    let s = c.args.self.now in
    let same = ap (λ o. option_map_or rows_of_table o []) c.in-Some.ensures ∙ sym (rows_at-got rows_of_table s.tables.now s.place) in
    let cost = ap (seeking digits (rows_by s) (references_by s) (meets_span c.args.span) (refers_among s.table.now c.args.columns.now c.args.keys.now.keys)) same in
    let few = c.meeting.ensures.few digits short in
    omega (arith, cost, few)
