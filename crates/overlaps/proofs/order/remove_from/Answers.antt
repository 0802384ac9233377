use Rattle.std.proofs.Common.{◌≡◌, ◌∙◌, Some, true, false, ap, sym, arith, rules}
use Rattle.model.specs.Periods.{period_of}
use Rattle.overlaps.specs.Index.{same_period}
use Rattle.overlaps.proofs.Ordered.{removed_all, removed_other, removed_here, same_place}
use Rattle.overlaps.proofs.order.remove_from.Goals as goal

pub returns-then-place-len-clause-found : goal.returns-then-place-len-clause-found
returns-then-place-len-clause-found g c =
    let most = c.if-place-len.true in
    let len = c.len.ensures in
    (removed_all g.T.HasPeriod.period g.met.T.HasPeriod.some_day (period_of c.args.period) c.args.items.now c.first_after-place.result c.first_after-place.ensures.place (omega arith)).0

pub returns-then-place-len-clause-rest : goal.returns-then-place-len-clause-rest
returns-then-place-len-clause-rest g c =
    let most = c.if-place-len.true in
    let len = c.len.ensures in
    (removed_all g.T.HasPeriod.period g.met.T.HasPeriod.some_day (period_of c.args.period) c.args.items.now c.first_after-place.result c.first_after-place.ensures.place (omega arith)).1

pub returns-then-ne-clause-found : goal.returns-then-ne-clause-found
returns-then-ne-clause-found g c =
    let within = c.if-place-len.false in
    let len = c.len.ensures in
    let other : same_period (period_of c.period.result) (period_of c.args.period) ≡ false = search rules in
    let differs = ap (λ p. same_period p (period_of c.args.period)) (sym c.period.ensures) ∙ other in
    (removed_other g.T.HasPeriod.period g.met.T.HasPeriod.some_day (period_of c.args.period) c.args.items.now c.first_after-place.result c.at.result.now c.requires c.first_after-place.ensures.place (omega arith) c.at.ensures.item differs).0

pub returns-then-ne-clause-rest : goal.returns-then-ne-clause-rest
returns-then-ne-clause-rest g c =
    let within = c.if-place-len.false in
    let len = c.len.ensures in
    let other : same_period (period_of c.period.result) (period_of c.args.period) ≡ false = search rules in
    let differs = ap (λ p. same_period p (period_of c.args.period)) (sym c.period.ensures) ∙ other in
    (removed_other g.T.HasPeriod.period g.met.T.HasPeriod.some_day (period_of c.args.period) c.args.items.now c.first_after-place.result c.at.result.now c.requires c.first_after-place.ensures.place (omega arith) c.at.ensures.item differs).1

pub returns-clause-found : goal.returns-clause-found
returns-clause-found g c =
    let within = c.if-place-len.false in
    let len = c.len.ensures in
    let same : same_period (period_of c.period.result) (period_of c.args.period) ≡ true = search rules in
    let alike = ap (λ p. same_period p (period_of c.args.period)) (sym c.period.ensures) ∙ same in
    let found = removed_here g.T.HasPeriod.period g.met.T.HasPeriod.some_day (period_of c.args.period) c.args.items.now c.first_after-place.result c.at.result.now c.requires c.first_after-place.ensures.place (omega arith) c.at.ensures.item alike in
    ap Some (same_place c.args.items.now c.first_after-place.result c.remove.result c.at.result.now (omega arith) c.remove.ensures.item c.at.ensures.item) ∙ found.0

pub returns-clause-rest : goal.returns-clause-rest
returns-clause-rest g c =
    let within = c.if-place-len.false in
    let len = c.len.ensures in
    let same : same_period (period_of c.period.result) (period_of c.args.period) ≡ true = search rules in
    let alike = ap (λ p. same_period p (period_of c.args.period)) (sym c.period.ensures) ∙ same in
    let found = removed_here g.T.HasPeriod.period g.met.T.HasPeriod.some_day (period_of c.args.period) c.args.items.now c.first_after-place.result c.at.result.now c.requires c.first_after-place.ensures.place (omega arith) c.at.ensures.item alike in
    c.remove.ensures.rest ∙ found.1
