use Rattle.std.proofs.Common.{◌<◌, ◌≤◌, ap, arith, rules}
use Rattle.overlaps.proofs.Places.{begun_next, begun_here, begun_all}
use Rattle.overlaps.proofs.order.sharing_places.Goals as goal
use Rattle.overlaps.proofs.order.sharing_places.Goals.{else-last-len-via-then-last-len+else-lt, else-last-len-via-else-last-len}

pub returns-then-lt-clause-end : goal.returns-then-lt-clause-end
returns-then-lt-clause-end g c =
    let within = c.if-last-len.true in
    let len = c.len.ensures in
    let start = ap (λ q. q.start) c.period.ensures in
    let early : c.period.result.start.number < c.args.p.end.number = search rules in
    begun_next g.T.HasPeriod.period g.met.T.HasPeriod.some_day c.args.p.end.number c.first_after-last.result c.args.items.now c.at.result.now c.requires c.first_after-last.ensures.place (omega arith) c.at.ensures.item (omega arith)

pub returns-clause-end : goal.returns-clause-end
returns-clause-end g c = elim c.else-last-len.branch [
  | else-last-len-via-then-last-len+else-lt w ↦
      let within = w.if-last-len in
      let len = c.len.ensures in
      let start = ap (λ q. q.start) w.period.ensures in
      let late : c.args.p.end.number ≤ w.period.result.start.number = search rules in
      begun_here g.T.HasPeriod.period g.met.T.HasPeriod.some_day c.args.p.end.number c.first_after-last.result c.args.items.now w.at.result.now c.first_after-last.ensures.place (omega arith) w.at.ensures.item (omega arith)
  | else-last-len-via-else-last-len w ↦
      let most = w.if-last-len in
      let len = c.len.ensures in
      begun_all g.T.HasPeriod.period g.met.T.HasPeriod.some_day c.args.p.end.number c.first_after-last.result c.args.items.now c.first_after-last.ensures.place (omega arith)
]
