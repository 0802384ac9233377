use Rattle.std.proofs.Common.{◌∙◌, ap, arith}
use Rattle.std.specs.List.{insert, prefix_len}
use Rattle.std.proofs.lemmas.List.Sums.{prefix_len-le-length}
use Rattle.overlaps.proofs.Sharing.{ended}
use Rattle.overlaps.proofs.Ordered.{insert-is}
use Rattle.overlaps.proofs.Changed.{on_ok}
use Rattle.overlaps.proofs.order.insert_in_order.Goals as goal

pub insert-requires : goal.insert-requires
insert-requires g c =
    let bound = prefix_len-le-length (ended g.T.HasPeriod.period c.period.result.start.number) c.args.items.now in
    let place = c.first_after-place.ensures.place in
    omega arith

pub returns-clause-ok : goal.returns-clause-ok
returns-clause-ok g c =
    let period = g.T.HasPeriod.period in
    let start = ap (λ p. p.start) c.period.ensures in
    let place = c.first_after-place.ensures.place ∙ ap (λ d. prefix_len (ended period d) c.args.items.now) start in
    on_ok c.insert.result (λ e. e ∙ ap (λ n. insert c.args.items.now n c.args.item) place ∙ insert-is period g.met.T.HasPeriod.some_day c.args.item c.args.items.now c.requires.free) c.insert.ensures.ok
