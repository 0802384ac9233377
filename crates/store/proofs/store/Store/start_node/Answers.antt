use Rattle.std.proofs.Common.{◌≡◌, ◌+◌, length, refl, rules}
use Rattle.std.proofs.lemmas.Option.{slice_get_read}
use Rattle.store.proofs.Continuing.{kept_same}
use Rattle.store.proofs.Going.{begun_seat, same_seat, starts_one, stayed_seat, stays}
use Rattle.store.proofs.Lives.{starts_stored}
use Rattle.store.proofs.Written.{on_err}
use Rattle.store.proofs.store.Store.start_node.Goals as goal

pub returns-in_err-schema-clause-goes : goal.returns-in_err-schema-clause-goes
returns-in_err-schema-clause-goes g c = on_err _ (stays g.K.Journal.Device.contents g.K.LogReader.is_honest g.K.LogReader.may_hold g.K.Keeper.holds c.args.self.now)

pub returns-in_default-clause-goes : goal.returns-in_default-clause-goes
returns-in_default-clause-goes g c = stays g.K.Journal.Device.contents g.K.LogReader.is_honest g.K.LogReader.may_hold g.K.Keeper.holds c.args.self.now

pub returns-then-is_up-clause-still : goal.returns-then-is_up-clause-still
returns-then-is_up-clause-still g c = λ none.
    let old = c.args.self.now in
    let at = c.in-Some.at in
    let before = c.index_mut-seat.result.now in
    same_seat g.K.Journal.Device.contents g.K.LogReader.is_honest g.K.LogReader.may_hold g.K.Keeper.holds old _ at before before
    (record { there = slice_get_read old.seats.items (length old.seats.items) at before refl c.in-Some.ensures.some.0 c.index_mut-seat.ensures.value; seats = refl; schema = refl; queue = refl; sent = refl; noted = refl; watched = refl; journal = kept_same g.K.Journal.Device.contents old.scribe; clean = λ k. k })
    refl (λ neat x has. has)

pub returns-in_err-start-clause-goes : goal.returns-in_err-start-clause-goes
returns-in_err-start-clause-goes g c =
    let old = c.args.self.now in
    let at = c.in-Some.at in
    let n = length old.seats.items in
    let before = c.index_mut-seat.result.now in
    let named : c.in_ok-schema.schema ≡ old.schema = search rules in
    let count : c.len-members.result ≡ n = search rules in
    on_err _ (same_seat g.K.Journal.Device.contents g.K.LogReader.is_honest g.K.LogReader.may_hold g.K.Keeper.holds old _ at before c.start.new.self
    (record { there = slice_get_read old.seats.items n at before refl c.in-Some.ensures.some.0 c.index_mut-seat.ensures.value; seats = refl; schema = refl; queue = refl; sent = refl; noted = refl; watched = refl; journal = kept_same g.K.Journal.Device.contents old.scribe; clean = c.start.ensures.clean })
    refl (λ neat x has. stayed_seat g.K.Journal.Device.contents g.K.LogReader.is_honest g.K.LogReader.may_hold g.K.Keeper.holds before c.start.new.self old.schema c.in_ok-schema.schema n c.len-members.result (at + 1) named count (c.in_err-start.ensures.rests neat) x has))

pub returns-clause-starts : goal.returns-clause-starts
returns-clause-starts g c = λ some.
    let old = c.args.self.now in
    let at = c.in-Some.at in
    let n = length old.seats.items in
    let before = c.index_mut-seat.result.now in
    let named : c.in_ok-schema.schema ≡ old.schema = search rules in
    let count : c.len-members.result ≡ n = search rules in
    starts_one g.K.Journal.Device.contents g.K.LogReader.is_honest g.K.LogReader.may_hold g.K.Keeper.holds old _ at before c.start.new.self
    (record { there = slice_get_read old.seats.items n at before refl c.in-Some.ensures.some.0 c.index_mut-seat.ensures.value; seats = refl; schema = refl; queue = refl; sent = refl; noted = refl; watched = refl; journal = kept_same g.K.Journal.Device.contents old.scribe; clean = c.start.ensures.clean })
    c.args.member c.in-Some.ensures.some.1 refl (λ neat x has. begun_seat g.K.Journal.Device.contents g.K.LogReader.is_honest g.K.LogReader.may_hold g.K.Keeper.holds before c.start.new.self old.schema c.in_ok-schema.schema n c.len-members.result (at + 1) named count (c.in_ok-start.ensures.starts (search rules) neat) x has)

pub returns-clause-stored : goal.returns-clause-stored
returns-clause-stored g c =
    let old = c.args.self.now in
    let at = c.in-Some.at in
    let before = c.index_mut-seat.result.now in
    starts_stored g.K.Journal.Device.contents g.K.LogReader.is_honest g.K.LogReader.may_hold g.K.Keeper.holds old _ at before c.start.new.self
    (record { there = slice_get_read old.seats.items (length old.seats.items) at before refl c.in-Some.ensures.some.0 c.index_mut-seat.ensures.value; seats = refl; schema = refl; queue = refl; sent = refl; noted = refl; watched = refl; journal = kept_same g.K.Journal.Device.contents old.scribe; clean = c.start.ensures.clean })
    c.args.member c.in-Some.ensures.some.1 (c.in_ok-start.ensures.runs (search rules)) c.stored.result c.stored.ensures
