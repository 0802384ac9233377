use Rattle.std.proofs.Common.{◌≡◌, ◌-◌, true, sym, ap, ◌∙◌, subst, inl, inr, arith}
use Rattle.std.specs.BTreeSet.{contains}
use Rattle.std.specs.Ordering.{nat_cmp}
use Rattle.sysversion.specs.Days.{Reached, reached_cmp}
use Rattle.sysversion.proofs.Reaching.{between, only_itself, goes_on, reached_le, fewer_left, number_in}
use Rattle.sysversion.proofs.reached.places_near.Goals as goal

pub loop-reach-smaller-then-day-start : goal.loop-reach-smaller-then-day-start
loop-reach-smaller-then-day-start c =
    fewer_left c.loop-reach.after (c.in-Some.reach, (c.in-Some.start, c.in-Some.place)) (c.in-Some.reach, (4294967295, 18446744073709551615)) c.args.reached.now c.in-Some.ensures.found c.in-Some.ensures.later
    (reached_le c.in-Some.reach c.in-Some.start c.in-Some.place 4294967295 18446744073709551615 (let fits = c.in-Some.ensures.fits in omega (arith, fits)) (let fits = c.in-Some.ensures.fits in omega (arith, fits)))

pub loop-reach-preserved-then-day-start : goal.loop-reach-preserved-then-day-start
loop-reach-preserved-then-day-start c = record {
  only = c.loop-reach.invariant.only;
  each = goes_on c.args.reached.now c.loop-reach.after (c.in-Some.reach, (c.in-Some.start, c.in-Some.place)) (c.in-Some.reach, (4294967295, 18446744073709551615)) c.args.day (λ place. contains nat_cmp c.loop-reach.places place ≡ true) c.loop-reach.invariant.each c.in-Some.ensures.first
      (λ q from up start far.
      let b = between c.in-Some.reach c.in-Some.start c.in-Some.place 4294967295 18446744073709551615 q from up in
      let low = b.1 in
      absurd (omega (arith, low, start)));
}

pub loop-reach-smaller-then-reach-day : goal.loop-reach-smaller-then-reach-day
loop-reach-smaller-then-reach-day c =
    fewer_left c.loop-reach.after (c.in-Some.reach, (c.in-Some.start, c.in-Some.place)) (c.in-Some.reach, (c.args.day - c.in-Some.reach, 18446744073709551615)) c.args.reached.now c.in-Some.ensures.found c.in-Some.ensures.later
    (reached_le c.in-Some.reach c.in-Some.start c.in-Some.place (c.args.day - c.in-Some.reach) 18446744073709551615 (let fits = c.in-Some.ensures.fits in omega (arith, fits)) (let fits = c.in-Some.ensures.fits in omega (arith, fits)))

pub loop-reach-preserved-then-reach-day : goal.loop-reach-preserved-then-reach-day
loop-reach-preserved-then-reach-day c = record {
  only = c.loop-reach.invariant.only;
  each = goes_on c.args.reached.now c.loop-reach.after (c.in-Some.reach, (c.in-Some.start, c.in-Some.place)) (c.in-Some.reach, (c.args.day - c.in-Some.reach, 18446744073709551615)) c.args.day (λ place. contains nat_cmp c.loop-reach.places place ≡ true) c.loop-reach.invariant.each c.in-Some.ensures.first
      (λ q from up start far.
      let b = between c.in-Some.reach c.in-Some.start c.in-Some.place (c.args.day - c.in-Some.reach) 18446744073709551615 q from up in
      let same = b.0 in
      let last = b.2 in
      absurd (omega (arith, same, last, far)));
}

pub loop-reach-smaller : goal.loop-reach-smaller
loop-reach-smaller c =
    let e : Reached = (c.in-Some.reach, (c.in-Some.start, c.in-Some.place)) in
    fewer_left c.loop-reach.after e e c.args.reached.now c.in-Some.ensures.found c.in-Some.ensures.later
    (reached_le c.in-Some.reach c.in-Some.start c.in-Some.place c.in-Some.start c.in-Some.place (omega arith) (omega arith))

pub loop-reach-preserved : goal.loop-reach-preserved
loop-reach-preserved c = record {
  only = λ place has. elim (number_in c.loop-reach.places c.insert.new.self c.in-Some.place place c.in_ok-insert.ensures.updates) [
    | inl new ↦ (c.in-Some.reach, c.in-Some.start, subst (λ p. contains reached_cmp c.args.reached.now (c.in-Some.reach, (c.in-Some.start, p)) ≡ true) new c.in-Some.ensures.found, omega arith, omega arith)
    | inr was ↦ c.loop-reach.invariant.only place (sym was ∙ has)
  ];
  each = goes_on c.args.reached.now c.loop-reach.after (c.in-Some.reach, (c.in-Some.start, c.in-Some.place)) (c.in-Some.reach, (c.in-Some.start, c.in-Some.place)) c.args.day (λ place. contains nat_cmp c.insert.new.self place ≡ true)
      (λ reach start place has done from far. elim (number_in c.loop-reach.places c.insert.new.self c.in-Some.place place c.in_ok-insert.ensures.updates) [
        | inl new ↦ subst (λ p. contains nat_cmp c.insert.new.self p ≡ true) new c.in_ok-insert.ensures.updates.1
        | inr was ↦ was ∙ c.loop-reach.invariant.each reach start place has done from far
      ])
      c.in-Some.ensures.first
      (λ q from up start far.
      let same = only_itself (c.in-Some.reach, (c.in-Some.start, c.in-Some.place)) q from up in
      subst (λ p. contains nat_cmp c.insert.new.self p ≡ true) (ap (λ (r : Reached). r.1.1) same) c.in_ok-insert.ensures.updates.1);
}
