use Rattle.std.proofs.Common.{◌≡◌, ◌∙◌, ◌<◌, ◌^◌, ap, sym, subst, List, [], length, arith}
use Rattle.std.specs.Option.{option_map_or}
use Rattle.rowlaws.specs.Rows.{Has}
use Rattle.model.specs.Tables.{Row}
use Rattle.current.specs.Rows.{row_of}
use Rattle.current.specs.Reads.{is_of}
use Rattle.current.specs.Table.{rows_of_table}
use Rattle.current.proofs.Reading.{no_more}
use Rattle.current.proofs.Tabled.{rows_at-got}
use Rattle.current.proofs.Undoing.{in_strand_there}
use Rattle.current.proofs.Looking.{there_found}
use Rattle.current.proofs.suspects.Search.stands.Goals as goal

pub returns-in-Some-clause-stands : goal.returns-in-Some-clause-stands
returns-in-Some-clause-stands c is =
    let s = c.args.self.now in
    let rows = c.in-Some.rows.now in
    let same : rows_of_table rows ≡ _ = ap (λ o. option_map_or rows_of_table o []) c.in-Some.ensures ∙ sym (rows_at-got rows_of_table s.tables.now s.place) in
    subst (λ (all : List Row). Has all (row_of c.args.row.now)) same (in_strand_there rows.index.strands rows.ordered rows.in_strands (row_of c.args.row.now) c.has.result (sym c.has.ensures.there) is)

pub returns-in-Some-clause-each : goal.returns-in-Some-clause-each
returns-in-Some-clause-each c there =
    let s = c.args.self.now in
    let rows = c.in-Some.rows.now in
    let same : rows_of_table rows ≡ _ = ap (λ o. option_map_or rows_of_table o []) c.in-Some.ensures ∙ sym (rows_at-got rows_of_table s.tables.now s.place) in
    c.has.ensures.there ∙ there_found rows.index.strands rows.ordered rows.in_strands (row_of c.args.row.now) (subst (λ (all : List Row). Has all (row_of c.args.row.now)) (sym same) there)

pub returns-in-None-clause-each : goal.returns-in-None-clause-each
returns-in-None-clause-each c there =
    let s = c.args.self.now in
    absurd (subst (λ (all : List Row). Has all (row_of c.args.row.now)) (rows_at-got rows_of_table s.tables.now s.place ∙ sym (ap (λ o. option_map_or rows_of_table o []) c.in-None.ensures)) there)

pub returns-in-Some-clause-few : goal.returns-in-Some-clause-few
returns-in-Some-clause-few c digits short =
    let s = c.args.self.now in
    let rows = c.in-Some.rows.now in
    let same : rows_of_table rows ≡ _ = ap (λ o. option_map_or rows_of_table o []) c.in-Some.ensures ∙ sym (rows_at-got rows_of_table s.tables.now s.place) in
    let of_key = no_more (is_of c.args.row.now.key) (rows_of_table rows) in
    let all : length (rows_of_table rows) < 2 ^ digits = subst (λ (rs : List Row). length rs < 2 ^ digits) (sym same) (short s.place) in
    let few = c.has.ensures.few digits (omega (arith, of_key, all)) in
    omega (arith, few)
