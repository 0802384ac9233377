-- Numbers that follow each other.
use Rattle.std.proofs.Common.{◌≡◌, ◌∙◌, ℕ, zero, suc, ◌+◌, ◌≤◌, ◌<◌, ◌⊎◌, inl, inr, List, [], ◌∷◌, Some, length, slice_index_or, slice_get, refl, sym, ap, subst, arith}
use Rattle.std.specs.Prelude.{Contains}
use Rattle.std.specs.List.Sorted.{IsNonDecreasing}
use Rattle.std.proofs.Math.Nat.{eq-or-lt_of_le}
use Rattle.std.proofs.lemmas.Bool.{cases_lt}

-- the first so many of these numbers follow each other
pub record Follow (numbers : List ℕ) (count first last : ℕ) : Type 0 where
  pub begins : slice_get numbers 0 ≡ Some first
  pub rises : first ≤ last
  pub there : (n : ℕ) → first ≤ n → n ≤ last → Contains numbers n
  pub all : (i : ℕ) → i < count → slice_index_or numbers i 0 ≤ last

same_item : (numbers : List ℕ) (at d e : ℕ) → at < length numbers → slice_index_or numbers at d ≡ slice_index_or numbers at e
same_item [] at d e h = absurd (omega (arith, h))
same_item (x ∷ numbers) zero d e h = refl
same_item (x ∷ numbers) (suc at) d e h = same_item numbers at d e (omega (arith, h))

-- what stands in a list
pub item_there : (numbers : List ℕ) (at : ℕ) → at < length numbers → Contains numbers (slice_index_or numbers at 0)
item_there numbers at h = (at, h, same_item numbers at (slice_index_or numbers at 0) 0 h)

-- the first one alone
pub one : (numbers : List ℕ) (first : ℕ) → slice_get numbers 0 ≡ Some first → Contains numbers first → Follow numbers 0 first first
one numbers first is there = record {
  begins = is;
  rises = omega (arith);
  there = λ n low high. let e : first ≡ n = omega (arith, low, high) in subst (λ (k : ℕ). Contains numbers k) e there;
  all = λ i less. absurd (omega (arith, less));
}

-- one number more
pub one_more : (numbers : List ℕ) (count first last first2 last2 number : ℕ) → Follow numbers count first last → number ≡ slice_index_or numbers count 0 → count < length numbers → first2 ≡ first → (((last2 ≡ last) × (number ≤ last2)) ⊎ ((last2 ≡ number) × (number ≡ last + 1))) →
    Follow numbers (count + 1) first2 last2
one_more numbers count first last first2 last2 number follow is h same grows = record {
  begins = follow.begins ∙ sym (ap Some same);
  rises = let r = follow.rises in elim grows [
    | inl g ↦ let a = g.0 in omega (arith, r, a, same)
    | inr g ↦ let a = g.0 in let b = g.1 in omega (arith, r, a, b, same)
  ];
  there = go grows;
  all = λ i less. elim (eq-or-lt_of_le (at_most i less)) [
    | inl e ↦ let at : slice_index_or numbers i 0 ≡ number = subst (λ (k : ℕ). slice_index_or numbers i 0 ≡ slice_index_or numbers k 0) e refl ∙ sym is in elim grows [
      | inl g ↦ let a = g.1 in omega (arith, at, a)
      | inr g ↦ let a = g.0 in omega (arith, at, a)
    ]
    | inr l ↦ let low = follow.all i l in elim grows [
      | inl g ↦ let a = g.0 in omega (arith, low, a)
      | inr g ↦ let a = g.0 in let b = g.1 in omega (arith, low, a, b)
    ]
  ];
}
  where
    at_most : (i : ℕ) → i < count + 1 → i ≤ count
    at_most i less = omega (arith, less)

    holds : Contains numbers number
    holds = subst (λ (k : ℕ). Contains numbers k) (sym is) (item_there numbers count h)

    go : (((last2 ≡ last) × (number ≤ last2)) ⊎ ((last2 ≡ number) × (number ≡ last + 1))) → (n : ℕ) → first2 ≤ n → n ≤ last2 → Contains numbers n
    go (inl g) n low high = let a = g.0 in follow.there n (omega (arith, same, low)) (omega (arith, a, high))
    go (inr g) n low high =
        let a = g.0 in
        let b = g.1 in
        elim (eq-or-lt_of_le high) [
          | inl e ↦ let is_it : number ≡ n = omega (arith, e, a) in subst (λ (k : ℕ). Contains numbers k) is_it holds
          | inr less ↦ follow.there n (omega (arith, same, low)) (omega (arith, less, a, b))
        ]

-- a number after a gap: the one that is missing is not there
pub missing_there : (numbers : List ℕ) (count first last missing number : ℕ) → Follow numbers count first last → number ≡ slice_index_or numbers count 0 → last < missing → missing < number → IsNonDecreasing numbers → Contains numbers missing → ⊥
missing_there numbers count first last missing number follow is low high sorted (i, h, e) = go (cases_lt i count)
  where
    at : slice_index_or numbers i 0 ≡ missing
    at = same_item numbers i 0 missing h ∙ e

    go : (i < count) ⊎ (count ≤ i) → ⊥
    go (inl less) = let a = follow.all i less in omega (arith, a, at, low)
    go (inr more) = let a = sorted count i 0 more h in omega (arith, a, at, is, high)
