use Rattle.std.proofs.Common.{◌<◌, ◌≤◌, ap, arith, rules}
use Rattle.model.specs.Periods.{period_of}
use Rattle.overlaps.proofs.Sharing.{missed_all, found_at, missed_at}
use Rattle.overlaps.proofs.order.first_sharing.Goals as goal

pub returns-then-place-len-clause-item : goal.returns-then-place-len-clause-item
returns-then-place-len-clause-item g c =
    let most = c.if-place-len.true in
    let len = c.len.ensures in
    missed_all g.T.HasPeriod.period g.met.T.HasPeriod.some_day (period_of c.args.p) c.args.items.now c.first_after-place.result c.first_after-place.ensures.place (omega arith)

pub returns-then-lt-clause-item : goal.returns-then-lt-clause-item
returns-then-lt-clause-item g c =
    let period = g.T.HasPeriod.period in
    let within = c.if-place-len.false in
    let len = c.len.ensures in
    let start = ap (λ q. q.start) c.period.ensures in
    let before : c.period.result.start.number < c.args.p.end.number = search rules in
    found_at period g.met.T.HasPeriod.some_day (period_of c.args.p) c.args.items.now c.first_after-place.result c.at-item.result.now c.args.p.ordered c.requires c.first_after-place.ensures.place (omega arith) c.at-item.ensures.item (omega arith)

pub returns-else-lt-clause-item : goal.returns-else-lt-clause-item
returns-else-lt-clause-item g c =
    let period = g.T.HasPeriod.period in
    let within = c.if-place-len.false in
    let len = c.len.ensures in
    let start = ap (λ q. q.start) c.period.ensures in
    let after : c.args.p.end.number ≤ c.period.result.start.number = search rules in
    missed_at period g.met.T.HasPeriod.some_day (period_of c.args.p) c.args.items.now c.first_after-place.result c.at-item.result.now c.args.p.ordered c.requires c.first_after-place.ensures.place (omega arith) c.at-item.ensures.item (omega arith)
