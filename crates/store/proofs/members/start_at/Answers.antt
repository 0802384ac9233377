use Rattle.std.proofs.Common.{◌≡◌, length, refl, rules}
use Rattle.std.proofs.lemmas.Option.{slice_get_read}
use Rattle.store.specs.Opening.{Starts}
use Rattle.store.proofs.Closing.{became_up, still_missing}
use Rattle.store.proofs.Opening.{on_became, starts_named, stays_missing}
use Rattle.store.proofs.members.start_at.Goals as goal

pub returns-then-is_missing-clause-starts : goal.returns-then-is_missing-clause-starts
returns-then-is_missing-clause-starts g c =
    let old = c.args.seats.now.items in
    let before = c.index_mut-seat.result.now in
    record {
      before = before;
      after = before;
      there = slice_get_read old (length old) c.args.at before refl c.requires c.index_mut-seat.ensures.value;
      now = refl;
      turned = stays_missing g.K.LogReader.is_honest g.K.LogReader.may_hold g.K.Keeper.holds c.args.schema.now (length old) before (c.is_missing.ensures.0 c.if-is_missing.true).0;
    }

pub returns-clause-starts : goal.returns-clause-starts
returns-clause-starts g c =
    let old = c.args.seats.now.items in
    let before = c.index_mut-seat.result.now in
    let after = c.start_seat.new.seat in
    let named : c.in_ok-schema.schema ≡ c.args.schema.now = search rules in
    let count : c.len-count.result ≡ length old = search rules in
    on_became c.start_seat.result (Starts g.K.LogReader.is_honest g.K.LogReader.may_hold g.K.Keeper.holds c.args.schema.now (length old)) old c.args.at before after
    (slice_get_read old (length old) c.args.at before refl c.requires c.index_mut-seat.ensures.value)
    (starts_named g.K.LogReader.is_honest g.K.LogReader.may_hold g.K.Keeper.holds c.start_seat.result c.args.schema.now c.in_ok-schema.schema (length old) c.len-count.result before after named count c.start_seat.ensures.starts)

pub returns-then-is_missing-clause-up : goal.returns-then-is_missing-clause-up
returns-then-is_missing-clause-up g c =
    let old = c.args.seats.now.items in
    let before = c.index_mut-seat.result.now in
    record {
      before = before;
      after = before;
      there = slice_get_read old (length old) c.args.at before refl c.requires c.index_mut-seat.ensures.value;
      now = refl;
      turned = still_missing g.K.LogReader.is_honest before (c.is_missing.ensures.0 c.if-is_missing.true);
    }

pub returns-clause-up : goal.returns-clause-up
returns-clause-up g c =
    let old = c.args.seats.now.items in
    let before = c.index_mut-seat.result.now in
    became_up c.start_seat.result g.K.LogReader.is_honest old c.args.at before c.start_seat.new.seat
    (slice_get_read old (length old) c.args.at before refl c.requires c.index_mut-seat.ensures.value) c.start_seat.ensures.same
    (λ gone. absurd (let there = c.is_missing.ensures.1 gone in let is = c.if-is_missing.false in cc (there, is))) c.start_seat.ensures.up c.start_seat.ensures.fits
