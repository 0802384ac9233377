use Rattle.std.proofs.Common.{◌≡◌, ◌+◌, true, false, MatchOption, length, refl, ap, subst}
use Rattle.std.specs.Option.{ForSome, option_and_then}
use Rattle.std.proofs.lemmas.Option.{slice_get_read}
use Rattle.store.specs.Seats.{HasMember}
use Rattle.store.proofs.Continuing.{kept_same}
use Rattle.store.proofs.Going.{same_seat, stops_one}
use Rattle.store.proofs.Became.{set_there}
use Rattle.store.proofs.Reading.{read_down, read_up}
use Rattle.store.proofs.store.Store.read_since.Goals as goal

pub returns-clause-stays : goal.returns-clause-stays
returns-clause-stays g c = λ up.
    let old = c.args.self.now in
    let at = c.args.at in
    let n = length old.seats.items in
    let before = c.index_mut-seat.result.now in
    let after = c.applied_since.new.self in
    same_seat g.K.Journal.Device.contents g.K.LogReader.is_honest g.K.LogReader.may_hold g.K.Keeper.holds old _ at before after
    (record { there = slice_get_read old.seats.items n at before refl c.requires.there c.index_mut-seat.ensures.value; seats = refl; schema = refl; queue = refl; sent = refl; noted = refl; watched = refl; journal = kept_same g.K.Journal.Device.contents old.scribe; clean = c.applied_since.ensures.clean })
    refl
    (λ neat x has. read_up after.node (HasMember g.K.LogReader.may_hold g.K.Keeper.holds old.schema n (at + 1) after) x (c.applied_since.ensures.reads neat old.schema n (at + 1) x has)
    (subst (λ o. ForSome o (λ n. n.is_up ≡ true)) (ap (option_and_then (λ seat. seat.node)) (set_there old.seats.items at after before (slice_get_read old.seats.items n at before refl c.requires.there c.index_mut-seat.ensures.value))) up))

pub returns-clause-falls : goal.returns-clause-falls
returns-clause-falls g c = λ down.
    let old = c.args.self.now in
    let at = c.args.at in
    let n = length old.seats.items in
    let before = c.index_mut-seat.result.now in
    let after = c.applied_since.new.self in
    stops_one g.K.Journal.Device.contents g.K.LogReader.is_honest g.K.LogReader.may_hold g.K.Keeper.holds old _ at before after
    (record { there = slice_get_read old.seats.items n at before refl c.requires.there c.index_mut-seat.ensures.value; seats = refl; schema = refl; queue = refl; sent = refl; noted = refl; watched = refl; journal = kept_same g.K.Journal.Device.contents old.scribe; clean = c.applied_since.ensures.clean })
    (at + 1) refl refl
    (λ neat x has. read_down after.node (HasMember g.K.LogReader.may_hold g.K.Keeper.holds old.schema n (at + 1) after) x (c.applied_since.ensures.reads neat old.schema n (at + 1) x has)
    (subst (λ o. MatchOption o ⊥ (λ n. n.is_up ≡ false)) (ap (option_and_then (λ seat. seat.node)) (set_there old.seats.items at after before (slice_get_read old.seats.items n at before refl c.requires.there c.index_mut-seat.ensures.value))) down))
