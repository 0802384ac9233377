use Rattle.std.proofs.Common.{◌<◌, ◌≤◌, ◌+◌, ◌-◌, ◌/◌, ap, arith, rules}
use Rattle.std.proofs.lemmas.List.Sums.{prefix_len-le-length}
use Rattle.overlaps.proofs.Sharing.{ended, stands_after, stands_before}
use Rattle.overlaps.proofs.Halves.{halved}
use Rattle.overlaps.proofs.order.first_after.Goals as goal

pub loop-low-init : goal.loop-low-init
loop-low-init g c =
    let most = prefix_len-le-length (ended g.T.HasPeriod.period c.args.day.number) c.args.items.now in
    let len = c.len-high.ensures in
    (omega arith, omega arith, omega arith, omega arith, λ digits short. (digits, omega arith, omega arith))

pub at-requires : goal.at-requires
at-requires g c =
    let h = c.loop-low.invariant in
    let t = c.loop-low-test.true in
    let most = h.2 in
    omega arith

pub loop-low-preserved-then-le : goal.loop-low-preserved-then-le
loop-low-preserved-then-le g c =
    let period = g.T.HasPeriod.period in
    let h = c.loop-low.invariant in
    let t = c.loop-low-test.true in
    let most = h.2 in
    let middle = c.loop-low.low + (c.loop-low.high - c.loop-low.low) / 2 in
    let here = ap (λ x. (period x).end) c.at.ensures.item in
    let end = ap (λ p. p.end) c.period.ensures in
    let in_time : c.period.result.end.number ≤ c.args.day.number = search rules in
    let after = stands_after period g.met.T.HasPeriod.some_day c.args.items.now c.args.day.number middle c.at.result.now c.requires (omega arith) (omega arith) in
    let once = c.at.ensures.counted in
    let grows = c.at.ensures.grows in
    (omega arith, h.1, h.2, omega arith, λ digits short. halved (c.loop-low.high - c.loop-low.low) (c.loop-low.high - (middle + 1)) c.loop-low.count c.at.new.count (c.args.count.now + digits) (omega arith) (omega arith) (omega arith) (h.4 digits short))

pub loop-low-preserved : goal.loop-low-preserved
loop-low-preserved g c =
    let period = g.T.HasPeriod.period in
    let h = c.loop-low.invariant in
    let t = c.loop-low-test.true in
    let most = h.2 in
    let middle = c.loop-low.low + (c.loop-low.high - c.loop-low.low) / 2 in
    let here = ap (λ x. (period x).end) c.at.ensures.item in
    let end = ap (λ p. p.end) c.period.ensures in
    let later : c.args.day.number < c.period.result.end.number = search rules in
    let before = stands_before period c.args.items.now c.args.day.number middle c.at.result.now (omega arith) in
    let once = c.at.ensures.counted in
    let grows = c.at.ensures.grows in
    (h.0, before, omega arith, omega arith, λ digits short. halved (c.loop-low.high - c.loop-low.low) (middle - c.loop-low.low) c.loop-low.count c.at.new.count (c.args.count.now + digits) (omega arith) (omega arith) (omega arith) (h.4 digits short))

pub returns-clause-place : goal.returns-clause-place
returns-clause-place g c =
    let h = c.loop-low.invariant in
    let t = c.loop-low-test.false in
    let low = h.0 in
    let high = h.1 in
    omega arith

pub returns-clause-few : goal.returns-clause-few
returns-clause-few g c = λ digits short. let h = c.loop-low.invariant.4 digits short in let few = h.2 in omega arith

pub returns-clause-grows : goal.returns-clause-grows
returns-clause-grows g c = c.loop-low.invariant.3
