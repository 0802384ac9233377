use Rattle.std.proofs.Common.{◌≡◌, ◌-◌, ℕ, Some, ap, arith, length, refl, slice_get, slice_set, subst}
use Rattle.std.proofs.lemmas.Option.{slice_get_read}
use Rattle.store.proofs.databases.Databases.take.Goals as goal

pub returns-clause-taken : goal.returns-clause-taken
returns-clause-taken g c = λ at is low.
    let old = c.args.self.now.seats.items in
    let seat = c.index_mut-seat.result.now in
    let after = c.take_image.new.self in
    let place : c.args.member - 1 ≡ at = omega (arith, is) in
    record {
      seat = seat;
      there = subst (λ (k : ℕ). slice_get old k ≡ Some seat) place (slice_get_read old (length old) (c.args.member - 1) seat refl (omega (arith, is, low)) c.index_mut-seat.ensures.value);
      is = c.take_image.ensures.0;
      after = after;
      now = ap (λ (k : ℕ). slice_set old k after) place;
      gone = (c.take_image.ensures.2, c.take_image.ensures.3, c.take_image.ensures.1);
    }
