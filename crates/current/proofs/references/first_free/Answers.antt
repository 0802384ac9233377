use Rattle.std.proofs.Common.{◌≡◌, ◌∙◌, map, option_map, sym, ap, subst}
use Rattle.model.specs.Periods.{period_of, is_free, StartInOrder}
use Rattle.model.specs.Statements.{days_of}
use Rattle.std.specs.Prelude.{find}
use Rattle.current.proofs.Placed.{days_of_row}
use Rattle.current.proofs.Meeting.{twice, starts_in_order}
use Rattle.current.proofs.references.first_free.Goals as goal

pub covered-requires : goal.covered-requires
covered-requires c =
    let rows = c.args.rows.now in
    let same : map period_of c.as_slice.result.now ≡ map days_of_row rows = ap (map period_of) c.as_slice.ensures.value ∙ c.in_ok-periods.ensures ∙ twice rows in
    subst (λ ps. StartInOrder ps) (sym same) (starts_in_order rows c.requires)

pub returns : goal.returns
returns c =
    let rows = c.args.rows.now in
    let p = period_of c.args.period in
    let same : map period_of c.as_slice.result.now ≡ map days_of_row rows = ap (map period_of) c.as_slice.ensures.value ∙ c.in_ok-periods.ensures ∙ twice rows in
    ap (option_map (λ d. d.number)) c.err.ensures.value ∙ c.covered.ensures ∙ ap (λ ps. find (is_free ps) (days_of p)) same
