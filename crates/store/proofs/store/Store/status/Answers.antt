use Rattle.std.proofs.Common.{◌≡◌, Some, ap, arith, length, refl, slice_get, subst}
use Rattle.std.proofs.lemmas.List.{take_all}
use Rattle.std.proofs.lemmas.Option.{slice_get_read}
use Rattle.store.specs.Became.{EachBecame}
use Rattle.store.specs.Statuses.{IsStatus}
use Rattle.store.proofs.Became.{more_became, none_begun}
use Rattle.store.proofs.store.Store.status.Goals as goal

pub loop-seat-init : goal.loop-seat-init
loop-seat-init g c = none_begun (IsStatus g.K.LogReader.is_honest c.args.self.now.leader) c.args.self.now.seats.items c.new-all.result.items c.new-all.ensures.items

pub loop-seat-preserved : goal.loop-seat-preserved
loop-seat-preserved g c =
    let seats = c.args.self.now.seats.items in
    let found = c.deref-seat-items.result.now in
    let seat = c.seat-item.result in
    let there = subst (λ xs. slice_get xs c.loop-seat.seat-index ≡ Some seat) c.deref-seat-items.ensures.value (slice_get_read found (length found) c.loop-seat.seat-index seat refl c.loop-seat-test.true c.seat-item.is) in
    more_became (IsStatus g.K.LogReader.is_honest c.args.self.now.leader) seats c.loop-seat.seat-index c.loop-seat.all.items _ seat c.status_of.result c.loop-seat.invariant there c.in_ok-push.ensures.items c.status_of.ensures

pub returns : goal.returns
returns g c =
    let seats = c.args.self.now.seats.items in
    let all = ap length c.deref-seat-items.ensures.value in
    let test = c.loop-seat-test.false in
    subst (λ xs. EachBecame (IsStatus g.K.LogReader.is_honest c.args.self.now.leader) xs c.loop-seat.all.items) (take_all c.loop-seat.seat-index seats (omega (arith, all, test))) c.loop-seat.invariant
