-- Seats whose members are started or stopped, one after the other.
use Rattle.std.proofs.Common.{◌≡◌, ◌≢◌, ◌∙◌, ◌↔◌, ◌⊎◌, ⊎_elim, inl, inr, ℕ, zero, suc, ◌+◌, ◌<◌, ◌≤◌, true, false, Bool, Option, Some, None, Result, Ok, Err, OnOk, List, MatchOption, length, slice_get, slice_set, refl, sym, ap, subst, arith}
use Rattle.std.specs.Prelude.{◌-◌, IsSome, IsTrue}
use Rattle.std.proofs.lemmas.Option.{same_Some, slice_get_within}
use Rattle.keep.specs.Durable.{Durable}
use Rattle.sessions.proofs.Lists.{get_there}
use Rattle.node.specs.declared.node.Node.{Node}
use Rattle.store.specs.declared.seat.Seat.{Seat}
use Rattle.store.specs.declared.tale.Tale.{Tale}
use Rattle.store.specs.Became.{Became, EachBecame}
use Rattle.store.specs.Closing.{IsAtRest, IsDownIn, MayHold, MayRest}
use Rattle.store.specs.Opening.{AreLaid}
use Rattle.store.specs.Seats.{IsMissing}
use Rattle.store.specs.Starting.{FitsTale, IsStarted}
use Rattle.store.specs.Tales.{Told, tale_of}
use Rattle.store.proofs.Became.{FirstBecame, both_became, next_became, one_became, same_became, set_there}

pub next_one : {A : Type 0} (turn : A → A → Type 0) (k : ℕ) (old mid new : List A) → FirstBecame turn k old mid → Became turn k mid new → FirstBecame turn (k + 1) old new
next_one turn k old mid new F b = next_became turn k old mid new b.before b.after F b.there b.now b.turned

pub not_up : {A : Type 0} (o : Option A) (b : Bool) → (IsSome o → IsTrue b) → b ≡ false → o ≡ None
not_up None b up is = refl
not_up (Some x) b up is = absurd (let there : false ≡ true = subst IsTrue is (up refl) in cc there)

module _ {K J I : Type 0} {an : _} {g : _} {s : _} {d : _} where
  -- ---- started

  pub still_missing : (honest : K → Type 0) (seat : Seat K J I an g s d) → IsMissing seat → IsStarted honest seat seat
  still_missing honest seat gone = (refl, (λ none. gone, λ m. m.0), λ node is. absurd (let none = gone.0 in cc (none, is)))

  pub came_up : (honest : K → Type 0) (before after : Seat K J I an g s d) → after.member ≡ before.member → (IsMissing before → ⊥) → IsSome after.node → FitsTale honest before.tale after → IsStarted honest before after
  came_up honest before after same there up fits = (same, (λ none. absurd (cc (up, none)), λ gone. absurd (there gone)), fits)

  -- where it was started
  pub became_up : {A E : Type 0} (r : Result A E) (honest : K → Type 0) (old : List (Seat K J I an g s d)) (at : ℕ) (before after : Seat K J I an g s d) → slice_get old at ≡ Some before → after.member ≡ before.member → (IsMissing before → ⊥) →
      OnOk r (IsSome after.node) → OnOk r (FitsTale honest before.tale after) → OnOk r (Became (IsStarted honest) at old (slice_set old at after))
  became_up (Ok x) honest old at before after there same is up fits = record { before = before; after = after; there = there; now = refl; turned = came_up honest before after same is up fits }
  became_up (Err e) honest old at before after there same is up fits = tt

  -- each that was laid out and then started
  pub opened_each : (honest : K → Type 0) (told : Told) (images : List (Option I)) (laid new : List (Seat K J I an g s d)) → AreLaid told images laid → EachBecame (IsStarted honest) laid new →
      (i : ℕ) (seat : Seat K J I an g s d) (image : Option I) → slice_get new i ≡ Some seat → slice_get images i ≡ Some image → (seat.member ≡ i + 1) × ((seat.node ≡ None) ↔ (image ≡ None)) × FitsTale honest (tale_of told i) seat
  opened_each honest told images laid new L E i seat image p q =
      let within = slice_get_within images i image q in
      let all = L.all in
      let before = get_there laid i (omega (arith, within, all)) in
      let l = L.each i before.0 image before.1 q in
      let e = E.each i before.0 seat before.1 p in
      (e.0 ∙ l.0, (λ none. sym l.2 ∙ (e.1.0 none).1, λ gone. e.1.1 (l.1, l.2 ∙ gone)), subst (λ (t : Tale). FitsTale honest t seat) l.3 e.2)

  -- ---- a seat without a node

  pub down_one : (seats : List (Seat K J I an g s d)) (m : ℕ) (seat : Seat K J I an g s d) (up : Bool) → (IsSome seat.node → IsTrue up) → slice_get seats (m - 1) ≡ Some seat → up ≡ false → IsDownIn seats m
  down_one seats m seat up ups there is at found me q =
      let place : m - 1 ≡ at = omega (arith, me) in
      let same : seat ≡ found = same_Some seat found (sym there ∙ ap (slice_get seats) place ∙ q) in
      subst (λ (t : Seat K J I an g s d). t.node ≡ None) same (not_up seat.node up ups is)

  -- a member that has no seat
  pub down_none : (seats : List (Seat K J I an g s d)) (m : ℕ) → (length seats < m) ⊎ (m ≡ 0) → IsDownIn seats m
  down_none seats m away at found me q =
      let within = slice_get_within seats at found q in
      absurd (⊎_elim (λ (far : length seats < m). omega (arith, far, me, within)) (λ (none : m ≡ 0). omega (arith, none, me)) away)

  pub down_set : (seats : List (Seat K J I an g s d)) (at m : ℕ) (before after : Seat K J I an g s d) → slice_get seats at ≡ Some before → m ≡ at + 1 → after.node ≡ None → IsDownIn (slice_set seats at after) m
  down_set seats at m before after there me none k found is q =
      let place : k ≡ at = omega (arith, me, is) in
      let same : after ≡ found = same_Some after found (sym (set_there seats at after before there) ∙ ap (slice_get (slice_set seats at after)) (sym place) ∙ q) in
      subst (λ (t : Seat K J I an g s d). t.node ≡ None) same none

  -- one member more of the first of these
  pub down_next : (old new : List (Seat K J I an g s d)) (at m : ℕ) → m ≡ at + 1 → ((i : ℕ) (seat : Seat K J I an g s d) → i < at → slice_get old i ≡ Some seat → seat.node ≡ None) → ((i : ℕ) → i ≢ m - 1 → slice_get new i ≡ slice_get old i) → IsDownIn new m →
      (i : ℕ) (seat : Seat K J I an g s d) → i < at + 1 → slice_get new i ≡ Some seat → seat.node ≡ None
  down_next old new at m me first others here i seat below there = ⊎_elim
      (λ (is : i ≡ at). here i seat (let e : m ≡ i + 1 = omega (arith, is, me) in e) there)
      (λ (less : i < at). first i seat less (sym (others i (λ (is : i ≡ m - 1). omega (arith, is, less, me))) ∙ there))
      (case_below i at below)
    where
      case_below : (i at : ℕ) → i < at + 1 → (i ≡ at) ⊎ (i < at)
      case_below zero zero below = inl refl
      case_below zero (suc at) below = inr (omega arith)
      case_below (suc i) zero below = absurd (omega (arith, below))
      case_below (suc i) (suc at) below = ⊎_elim (λ (is : i ≡ at). inl (ap suc is)) (λ (less : i < at). inr (omega (arith, less))) (case_below i at (omega (arith, below)))

  -- all of them
  pub down_all : (seats : List (Seat K J I an g s d)) (at : ℕ) → length seats ≤ at → ((i : ℕ) (seat : Seat K J I an g s d) → i < at → slice_get seats i ≡ Some seat → seat.node ≡ None) → (m : ℕ) → IsDownIn seats m
  down_all seats at past all m k found is q = let within = slice_get_within seats k found q in all k found (omega (arith, within, past)) q

module _ {K J I : Type 0} {an : _} {g : _} {s : _} {d : _} (held : K → Durable → Type 0) (holds : I → Durable → Type 0) where
  -- ---- at rest

  may_hold : (seat : Seat K J I an g s d) (image : I) (stored : Durable) → seat.node ≡ None → seat.image ≡ Some image → holds image stored ↔ MayHold held holds seat stored
  may_hold seat image stored none some =
      let Of : Option (Node K I g s) → Type 0 = λ o. MatchOption o (MatchOption seat.image ⊥ (λ i. holds i stored)) (λ node. held node.keeper stored) in
      let In : Option I → Type 0 = λ o. MatchOption o ⊥ (λ i. holds i stored) in
      (λ h. subst Of (sym none) (subst In (sym some) h), λ h. subst In some (subst Of none h))

  pub rests_itself : (seat : Seat K J I an g s d) → seat.node ≡ None → IsAtRest held holds seat seat
  rests_itself seat none = record {
    member = refl;
    down = none;
    there = (λ gone. (none, gone), λ m. m.1);
    holds_it = λ image is stored. may_hold seat image stored none is;
  }

  -- at rest, and then stopped once more
  rests_after : (x y z : Seat K J I an g s d) → IsAtRest held holds x y → IsAtRest held holds y z → IsAtRest held holds x z
  rests_after x y z one two = record {
    member = two.member ∙ one.member;
    down = two.down;
    there = (λ gone. one.there.0 (two.there.0 gone).1, λ m. two.there.1 (one.down, one.there.1 m));
    holds_it = go y.image refl;
  }
    where
      go : (o : Option I) → y.image ≡ o → (image : I) → z.image ≡ Some image → (stored : Durable) → holds image stored ↔ MayHold held holds x stored
      go None none image is stored = absurd (let gone = two.there.1 (one.down, none) in cc (gone, is))
      go (Some first) some image is stored =
          let then = two.holds_it image is stored in
          let same = may_hold y first stored one.down some in
          let before = one.holds_it first some stored in
          (λ h. before.0 (same.1 (then.0 h)), λ h. then.1 (same.0 (before.1 h)))

  -- ---- at rest, or as it was

  rest_then : (x y z : Seat K J I an g s d) → MayRest held holds x y → IsAtRest held holds y z → IsAtRest held holds x z
  rest_then x y z (inl same) two = subst (λ (t : Seat K J I an g s d). IsAtRest held holds t z) same two
  rest_then x y z (inr one) two = rests_after x y z one two

  may_both : (x y z : Seat K J I an g s d) → MayRest held holds x y → MayRest held holds y z → MayRest held holds x z
  may_both x y z one (inl same) = subst (λ (t : Seat K J I an g s d). MayRest held holds x t) (sym same) one
  may_both x y z one (inr two) = inr (rest_then x y z one two)

  -- the same seats
  pub rest_same : (old new : List (Seat K J I an g s d)) → new ≡ old → EachBecame (MayRest held holds) old new
  rest_same old new is = same_became (MayRest held holds) (λ seat. inl refl) old new is

  -- the member of one of them was stopped
  pub rest_one : (old new : List (Seat K J I an g s d)) (at : ℕ) (before after : Seat K J I an g s d) → slice_get old at ≡ Some before → new ≡ slice_set old at after → IsAtRest held holds before after → EachBecame (MayRest held holds) old new
  rest_one old new at before after there is rests = one_became (MayRest held holds) (λ seat. inl refl) old new at before after there is (inr rests)

  pub rest_after : (old mid new : List (Seat K J I an g s d)) → EachBecame (MayRest held holds) old mid → EachBecame (MayRest held holds) mid new → EachBecame (MayRest held holds) old new
  rest_after old mid new one two = both_became (MayRest held holds) (MayRest held holds) (MayRest held holds) may_both old mid new one two

  -- and then each of them
  pub all_rest : (old mid new : List (Seat K J I an g s d)) → EachBecame (MayRest held holds) old mid → EachBecame (IsAtRest held holds) mid new → EachBecame (IsAtRest held holds) old new
  all_rest old mid new one two = both_became (IsAtRest held holds) (MayRest held holds) (IsAtRest held holds) rest_then old mid new one two
