use Rattle.std.proofs.Common.{◌+◌, ◌==◌, ◌∙◌, List, [], map, arith, refl, ap, sym, subst, length, option_map}
use Rattle.model.specs.Tables.{Row}
use Rattle.current.specs.Orphans.{place_of}
use Rattle.current.proofs.Looking.{ok_map}
use Rattle.rowlaws.specs.Rows.{Has}
use Rattle.std.specs.Option.{option_map_or}
use Rattle.sqlread.specs.Meaning.{reference_of}
use Rattle.current.specs.Reads.{total, judging, checking}
use Rattle.current.proofs.Seeking.{checking_some}
use Rattle.current.specs.Places.{rows_at}
use Rattle.current.specs.Table.{rows_of_table}
use Rattle.current.specs.Touched.{removed_in, added_in}
use Rattle.current.proofs.Suspected.{none_picked, all_picked}
use Rattle.current.proofs.suspects.first_in_table.Goals as goal

pub returns-then-is_empty-clause-picked : goal.returns-then-is_empty-clause-picked
returns-then-is_empty-clause-picked c =
    let all = rows_at rows_of_table c.args.tables.now in
    let none = ap (λ rs. length rs == 0) (sym c.references.ensures) ∙ sym c.is_empty.ensures ∙ c.if-is_empty.true in
    none_picked c.args.schema.now c.args.place _ _ all (removed_in c.args.touched.now) (added_in c.args.touched.now) c.table.ensures.table none

pub returns-clause-picked : goal.returns-clause-picked
returns-clause-picked c =
    let all = rows_at rows_of_table c.args.tables.now in
    let a = c.in_ok-found.ensures.looks [] ((λ r h. absurd h), refl) in
    ok_map c.losing_any.result (λ found look.
    let b = look a.0 a.1 in
    all_picked c.args.schema.now c.args.place _ _ all (removed_in c.args.touched.now) (added_in c.args.touched.now) c.table.ensures.table b.0 (option_map place_of found) b.1
    (λ r h. b.2 r (a.3 r (subst (λ (rows : List Row). Has rows r) (sym c.added.ensures) h.0, h.1)))
    (λ r l. b.3 r l)) c.losing_any.ensures.looks

pub returns-clause-few : goal.returns-clause-few
returns-clause-few c digits short =
    let all = rows_at rows_of_table c.args.tables.now in
    let removed = removed_in c.args.touched.now in
    let added = added_in c.args.touched.now in
    let place = c.args.place in
    let table = c.table.result.1.now in
    let some = ap (λ rs. length rs == 0) (sym c.references.ensures) ∙ sym c.is_empty.ensures ∙ c.if-is_empty.false in
    let here = ap (λ o. checking digits all removed added place (option_map_or (λ t. map (reference_of place t.1) t.1.references) o [])) c.table.ensures.table in
    let parts = checking_some digits all removed added place table table.references some in
    let rows = ap (total (λ r. digits + 1 + judging digits all (map (reference_of place table) table.references) r)) c.added.ensures in
    let came = c.came.ensures.few digits short in
    let lost = c.losing_any.ensures.few digits short in
    omega (arith, here, parts, rows, came, lost)

pub returns-in_err-found-clause-few : goal.returns-in_err-found-clause-few
returns-in_err-found-clause-few c digits short =
    let all = rows_at rows_of_table c.args.tables.now in
    let removed = removed_in c.args.touched.now in
    let added = added_in c.args.touched.now in
    let place = c.args.place in
    let table = c.table.result.1.now in
    let some = ap (λ rs. length rs == 0) (sym c.references.ensures) ∙ sym c.is_empty.ensures ∙ c.if-is_empty.false in
    let here = ap (λ o. checking digits all removed added place (option_map_or (λ t. map (reference_of place t.1) t.1.references) o [])) c.table.ensures.table in
    let parts = checking_some digits all removed added place table table.references some in
    let rows = ap (total (λ r. digits + 1 + judging digits all (map (reference_of place table) table.references) r)) c.added.ensures in
    let came = c.came.ensures.few digits short in
    omega (arith, here, parts, rows, came)
