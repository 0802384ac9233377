-- Lists whose elements become others, one after the other.
use Rattle.std.proofs.Common.{◌≡◌, ◌∙◌, ◌≢◌, ◌⊎◌, inl, inr, ℕ, zero, suc, ◌+◌, ◌≤◌, ◌<◌, Some, List, [], ◌∷◌, ◌++◌, take, length, slice_get, slice_set, refl, sym, ap, subst, add-one, arith}
use Rattle.std.proofs.Math.Nat.{eq-or-lt_of_le}
use Rattle.std.proofs.lemmas.List.{length-set, length_push}
use Rattle.std.proofs.lemmas.Option.{same_Some, slice_get_within}
use Rattle.sessions.proofs.Lists.{get_there}
use Rattle.store.specs.Became.{EachBecame}
use Rattle.store.proofs.Opening.{pushed}

pub set_there : {A : Type 0} (xs : List A) (i : ℕ) (a x : A) → slice_get xs i ≡ Some x → slice_get (slice_set xs i a) i ≡ Some a
set_there [] i a x e = absurd (cc e)
set_there (y ∷ ys) zero a x e = refl
set_there (y ∷ ys) (suc i) a x e = set_there ys i a x e

set_apart : {A : Type 0} (xs : List A) (i j : ℕ) (a : A) → j ≢ i → slice_get (slice_set xs i a) j ≡ slice_get xs j
set_apart [] i j a other = refl
set_apart (y ∷ ys) zero zero a other = absurd (other refl)
set_apart (y ∷ ys) zero (suc j) a other = refl
set_apart (y ∷ ys) (suc i) zero a other = refl
set_apart (y ∷ ys) (suc i) (suc j) a other = set_apart ys i j a (λ same. other (ap suc same))

same_or_other : (i j : ℕ) → (i ≡ j) ⊎ (i ≢ j)
same_or_other zero zero = inl refl
same_or_other zero (suc j) = inr (λ same. absurd (omega (arith, same)))
same_or_other (suc i) zero = inr (λ same. absurd (omega (arith, same)))
same_or_other (suc i) (suc j) = elim (same_or_other i j) [
  | inl same ↦ inl (ap suc same)
  | inr other ↦ inr (λ same. other (omega (arith, same)))
]

module _ {A : Type 0} (turn : A → A → Type 0) where
  -- the first so many became others, and the rest is as it was
  pub record FirstBecame (k : ℕ) (old new : List A) : Type 0 where
    pub count : length new ≡ length old
    pub each : (i : ℕ) (before after : A) → i < k → slice_get old i ≡ Some before → slice_get new i ≡ Some after → turn before after
    pub rest : (i : ℕ) → k ≤ i → slice_get new i ≡ slice_get old i

  pub none_became : (xs : List A) → FirstBecame 0 xs xs
  none_became xs = record { count = refl; each = λ i before after low p q. absurd (omega (arith, low)); rest = λ i low. refl }

  -- the next one too
  pub next_became : (k : ℕ) (old mid new : List A) (before after : A) → FirstBecame k old mid → slice_get mid k ≡ Some before → new ≡ slice_set mid k after → turn before after → FirstBecame (k + 1) old new
  next_became k old mid new before after F there is turned = record {
    count = ap length is ∙ length-set mid k after ∙ F.count;
    each = λ i b a low p q.
        let at : i ≤ k = omega (arith, low) in
        let found : slice_get (slice_set mid k after) i ≡ Some a = sym (ap (λ (xs : List A). slice_get xs i) is) ∙ q in
        elim (eq-or-lt_of_le at) [
          | inl same ↦
              let one : b ≡ before = same_Some b before (sym p ∙ sym (F.rest i (omega (arith, same))) ∙ ap (slice_get mid) same ∙ there) in
              let two : after ≡ a = same_Some after a (sym (set_there mid k after before there) ∙ sym (ap (slice_get (slice_set mid k after)) same) ∙ found) in
              subst (λ (x : A). turn x a) (sym one) (subst (λ (y : A). turn before y) two turned)
          | inr less ↦ F.each i b a less p (sym (set_apart mid k i after (λ same. absurd (omega (arith, less, same)))) ∙ found)
        ];
    rest = λ i low. ap (λ (xs : List A). slice_get xs i) is ∙ set_apart mid k i after (λ same. absurd (omega (arith, low, same))) ∙ F.rest i (omega (arith, low));
  }

  pub all_became : (k : ℕ) (old new : List A) → length old ≤ k → FirstBecame k old new → EachBecame turn old new
  all_became k old new whole F = record { count = F.count; each = λ i before after p q. let within = slice_get_within old i before p in F.each i before after (omega (arith, whole, within)) p q }

  -- a relation in which each stands to itself
  module _ (itself : (x : A) → turn x x) where
    pub same_became : (old new : List A) → new ≡ old → EachBecame turn old new
    same_became old new is = record {
      count = ap length is;
      each = λ i before after p q. subst (λ (y : A). turn before y) (same_Some before after (sym p ∙ sym (ap (λ (xs : List A). slice_get xs i) is) ∙ q)) (itself before);
    }

    -- one of them alone
    pub one_became : (old new : List A) (at : ℕ) (before after : A) → slice_get old at ≡ Some before → new ≡ slice_set old at after → turn before after → EachBecame turn old new
    one_became old new at before after there is turned = record {
      count = ap length is ∙ length-set old at after;
      each = λ i b a p q.
          let found : slice_get (slice_set old at after) i ≡ Some a = sym (ap (λ (xs : List A). slice_get xs i) is) ∙ q in
          elim (same_or_other i at) [
            | inl same ↦
                let one : b ≡ before = same_Some b before (sym p ∙ ap (slice_get old) same ∙ there) in
                let two : after ≡ a = same_Some after a (sym (set_there old at after before there) ∙ sym (ap (slice_get (slice_set old at after)) same) ∙ found) in
                subst (λ (x : A). turn x a) (sym one) (subst (λ (y : A). turn before y) two turned)
            | inr other ↦ subst (λ (y : A). turn b y) (same_Some b a (sym p ∙ sym (set_apart old at i after other) ∙ found)) (itself b)
          ];
    }

  -- what became something that became something
  pub both_became : (first then : A → A → Type 0) → ((x y z : A) → first x y → then y z → turn x z) → (old mid new : List A) → EachBecame first old mid → EachBecame then mid new → EachBecame turn old new
  both_became first then both old mid new one two = record {
    count = two.count ∙ one.count;
    each = λ i before after p q.
        let within = slice_get_within old i before p in
        let count = one.count in
        let there = get_there mid i (omega (arith, within, count)) in
        both before there.0 after (one.each i before there.0 p there.1) (two.each i there.0 after there.1 q);
  }

-- one more of the first
pub next_of : {C : Type 0} (xs : List C) (k : ℕ) (x : C) → slice_get xs k ≡ Some x → take (suc k) xs ≡ take k xs ++ x ∷ []
next_of [] k x p = absurd (cc p)
next_of (y ∷ ys) zero x p = ap (λ z. z ∷ []) (same_Some y x p)
next_of (y ∷ ys) (suc k) x p = ap (λ zs. y ∷ zs) (next_of ys k x p)

-- ---- of two kinds

module _ {A B : Type 0} (turn : A → B → Type 0) where
  pub none_begun : (xs : List A) (ys : List B) → ys ≡ [] → EachBecame turn (take 0 xs) ys
  none_begun xs ys none = record { count = ap length none; each = λ i x y p q. absurd (cc p) }

  -- one more at the end of both
  pub more_became : (xs : List A) (k : ℕ) (ys zs : List B) (x : A) (y : B) → EachBecame turn (take k xs) ys → slice_get xs k ≡ Some x → zs ≡ ys ++ y ∷ [] → turn x y → EachBecame turn (take (k + 1) xs) zs
  more_became xs k ys zs x y E there is turned =
      let T : List A → List B → Type 0 = λ old new. EachBecame turn old new in
      let grown : T (take k xs ++ x ∷ []) (ys ++ y ∷ []) = record {
        count = length_push ys y ∙ ap (λ n. n + 1) E.count ∙ sym (length_push (take k xs) x);
        each = λ i a b p q. elim (pushed (take k xs) x a i p) [
          | inl before ↦ elim (pushed ys y b i q) [
            | inl after ↦ E.each i a b before after
            | inr after ↦ let within = slice_get_within (take k xs) i a before in let count = E.count in let at = after.0 in absurd (omega (arith, within, count, at))
          ]
          | inr before ↦ elim (pushed ys y b i q) [
            | inl after ↦ let within = slice_get_within ys i b after in let count = E.count in let at = before.0 in absurd (omega (arith, within, count, at))
            | inr after ↦ subst (λ (v : A). turn v b) (sym before.1) (subst (λ (w : B). turn x w) (sym after.1) turned)
          ]
        ];
      } in
      subst (λ (old : List A). T old zs) (sym (ap (λ (n : ℕ). take n xs) (add-one k) ∙ next_of xs k x there)) (subst (λ (new : List B). T (take k xs ++ x ∷ []) new) (sym is) grown)
