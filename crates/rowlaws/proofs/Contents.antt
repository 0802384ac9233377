-- Elements and distinctness in std's words, and lists of rows in another order.
use Rattle.std.proofs.Common.{◌≡◌, ◌<◌, ℕ, zero, suc, inl, inr, true, List, [], ◌∷◌, length, refl, sym, subst, arith, get_or, Contains, Decides}
use Rattle.std.specs.Prelude.{AllPairs, ◌≢◌}
use Rattle.std.specs.List.Sorted.{IsPermutation}
use Rattle.std.proofs.lemmas.List.Elements.{Contains-append_cases, Contains-append_right}
use Rattle.std.proofs.lemmas.List.Kept.{AllPairs-cons}
use Rattle.std.proofs.lemmas.List.Sorted.{IsPermutation-sym, Contains-permutation}
use Rattle.std.proofs.lemmas.Map.Keys.{IsDistinct-IsPermutation}
use Rattle.std.proofs.lemmas.Map.Made.{AllPairs-from_IsDistinct, IsDistinct-from_AllPairs}
use Rattle.model.specs.Tables.{Row}
use Rattle.rowlaws.specs.Rows.{Has, Apart, HasContains, ApartPairs, Permuted}
use Rattle.rowlaws.specs.Touching.{same_row}
use Rattle.rowlaws.proofs.Anys.{same_test}
use Rattle.rowlaws.proofs.Listed.{same_listed}
use Rattle.rowlaws.proofs.Differences.{same_row-true, same_row-itself}

module _ {A : Type 0} where
  pub has_contains : (xs : List A) (z : A) → Has xs z → Contains xs z
  has_contains [] z h = absurd h
  has_contains (x ∷ xs) z (inl e) = (0, omega arith, sym e)
  has_contains (x ∷ xs) z (inr h) = Contains-append_right (x ∷ []) xs z (has_contains xs z h)

  pub contains_has : (xs : List A) (z : A) → Contains xs z → Has xs z
  contains_has [] z h = absurd (omega (arith, h.1))
  contains_has (x ∷ xs) z h = elim (Contains-append_cases (x ∷ []) xs z h) [
    | inl one ↦ let e : one.0 ≡ 0 = omega (arith, one.1) in inl (sym (subst (λ k. get_or (x ∷ []) k z ≡ z) e one.2))
    | inr later ↦ inr (contains_has xs z later)
  ]

pub contained : HasContains
contained rows r = (has_contains rows r, contains_has rows r)

module _ {A : Type 0} where
  at_has : (ys : List A) (k : ℕ) (d : A) → k < length ys → Has ys (get_or ys k d)
  at_has [] k d h = absurd (omega arith)
  at_has (y ∷ ys) zero d h = inl refl
  at_has (y ∷ ys) (suc k) d h = inr (at_has ys k d (omega arith))

  pub apart_pairs : (xs : List A) → Apart xs → AllPairs (λ r s. r ≢ s) xs
  apart_pairs [] a = λ i j d l h. absurd (omega arith)
  apart_pairs (x ∷ xs) a = AllPairs-cons (λ r s. r ≢ s) x xs (λ k d h e. a.0 (subst (λ z. Has xs z) (sym e) (at_has xs k d h))) (apart_pairs xs a.1)

  pub pairs_apart : (xs : List A) → AllPairs (λ r s. r ≢ s) xs → Apart xs
  pairs_apart [] h = tt
  pairs_apart (x ∷ xs) h = ((λ g. let c = has_contains xs x g in h 0 (suc c.0) x (omega arith) (omega (arith, c.1)) (sym c.2)), pairs_apart xs (λ i j d l g. h (suc i) (suc j) d (omega arith) (omega arith)))

pub apart_is : ApartPairs
apart_is rows = (apart_pairs rows, pairs_apart rows)

-- ---- in another order

same_decides : (a b : Row) → Decides (same_row a b) (a ≡ b)
same_decides a b = (same_row-true a b, λ e. subst (λ x. same_row a x ≡ true) e (same_row-itself a))

same_flips : (a b : Row) → same_row a b ≡ same_row b a
same_flips a b = same_test (same_row a b) (same_row b a) (λ h. subst (λ x. same_row x a ≡ true) (same_row-true a b h) (same_row-itself a)) (λ h. subst (λ x. same_row x b ≡ true) (same_row-true b a h) (same_row-itself b))

apart_permuted : (rows more : List Row) → IsPermutation rows more → Apart rows → Apart more
apart_permuted rows more p a =
    pairs_apart more (AllPairs-from_IsDistinct same_decides more (IsDistinct-IsPermutation same_row same_flips rows more p (IsDistinct-from_AllPairs same_decides rows (apart_pairs rows a))))

pub permuted : Permuted
permuted rows more table p l = same_listed rows more table l (apart_permuted rows more p l.once)
    (λ r. ((λ h. contains_has rows r (Contains-permutation more rows r (IsPermutation-sym rows more p) (has_contains more r h))), (λ h. contains_has more r (Contains-permutation rows more r p (has_contains rows r h)))))
