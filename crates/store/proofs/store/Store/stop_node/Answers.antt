use Rattle.std.proofs.Common.{◌+◌, length, refl}
use Rattle.std.proofs.lemmas.Option.{slice_get_read}
use Rattle.store.proofs.Closing.{down_none, down_set, rest_one}
use Rattle.store.proofs.Continuing.{kept_same}
use Rattle.store.proofs.Going.{stops_nobody, stops_one}
use Rattle.store.proofs.store.Store.stop_node.Goals as goal

pub returns-in_default-clause-stops : goal.returns-in_default-clause-stops
returns-in_default-clause-stops g c = stops_nobody g.K.Journal.Device.contents g.K.LogReader.is_honest g.K.LogReader.may_hold g.K.Keeper.holds c.args.self.now c.args.member c.in_default.ensures.none

pub returns-clause-stops : goal.returns-clause-stops
returns-clause-stops g c =
    let old = c.args.self.now in
    let at = c.in-Some.at in
    let before = c.index_mut-seat.result.now in
    stops_one g.K.Journal.Device.contents g.K.LogReader.is_honest g.K.LogReader.may_hold g.K.Keeper.holds old _ at before c.stop.new.self
    (record { there = slice_get_read old.seats.items (length old.seats.items) at before refl c.in-Some.ensures.some.0 c.index_mut-seat.ensures.value; seats = refl; schema = refl; queue = refl; sent = refl; noted = refl; watched = refl; journal = kept_same g.K.Journal.Device.contents old.scribe; clean = c.stop.ensures.clean })
    c.args.member c.in-Some.ensures.some.1 refl
    (λ neat x has. c.stop.ensures.stops old.schema (length old.seats.items) (at + 1) x has)

pub returns-clause-rests : goal.returns-clause-rests
returns-clause-rests g c =
    let old = c.args.self.now.seats.items in
    let at = c.in-Some.at in
    let before = c.index_mut-seat.result.now in
    rest_one g.K.LogReader.may_hold g.K.Keeper.holds old _ at before c.stop.new.self (slice_get_read old (length old) at before refl c.in-Some.ensures.some.0 c.index_mut-seat.ensures.value) refl c.stop.ensures.rests

pub returns-in_default-clause-down : goal.returns-in_default-clause-down
returns-in_default-clause-down g c = down_none c.args.self.now.seats.items c.args.member c.in_default.ensures.none

pub returns-clause-down : goal.returns-clause-down
returns-clause-down g c =
    let old = c.args.self.now.seats.items in
    let at = c.in-Some.at in
    let before = c.index_mut-seat.result.now in
    down_set old at c.args.member before c.stop.new.self (slice_get_read old (length old) at before refl c.in-Some.ensures.some.0 c.index_mut-seat.ensures.value) c.in-Some.ensures.some.1 c.stop.ensures.rests.down
