use Rattle.std.proofs.Common.{◌≡◌, arith, length, refl, rules}
use Rattle.std.proofs.lemmas.Option.{slice_get_read}
use Rattle.store.specs.Closing.{IsAtRest}
use Rattle.store.proofs.Became.{all_became, next_became, none_became}
use Rattle.store.proofs.databases.Databases.of.Goals as goal

pub loop-at-init : goal.loop-at-init
loop-at-init g c = none_became (IsAtRest g.K.LogReader.may_hold g.K.Keeper.holds) c.args.seats.items

pub loop-at-preserved : goal.loop-at-preserved
loop-at-preserved g c =
    let mid = c.loop-at.seats.items in
    let before = c.index_mut-seat.result.now in
    let len : c.len-at-end.result ≡ length c.args.seats.items = search rules in
    let test = c.loop-at-test.true in
    let count = c.loop-at.invariant.count in
    next_became (IsAtRest g.K.LogReader.may_hold g.K.Keeper.holds) c.loop-at.at c.args.seats.items mid _ before c.stop.new.self c.loop-at.invariant
    (slice_get_read mid (length mid) c.loop-at.at before refl (omega (arith, len, test, count)) c.index_mut-seat.ensures.value) refl c.stop.ensures.rests

pub returns : goal.returns
returns g c =
    let len : c.len-at-end.result ≡ length c.args.seats.items = search rules in
    let test = c.loop-at-test.false in
    all_became (IsAtRest g.K.LogReader.may_hold g.K.Keeper.holds) c.loop-at.at c.args.seats.items c.loop-at.seats.items (omega (arith, len, test)) c.loop-at.invariant
