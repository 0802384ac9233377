-- The greatest index that passes, found by what the members match.
use Rattle.std.proofs.Common.{◌≡◌, ◌⊎◌, ◌∙◌, ℕ, zero, suc, ◌+◌, ◌*◌, ◌≤◌, ◌<◌, max, Bool, true, false, cond, ◌==◌, nat_lt, nat_le, ◌&&◌, ◌||◌, if◌then◌else◌, None, List, [], ◌∷◌, drop, length, slice_index_or, refl, sym, ap, arith, add-one, inl, inr}
use Rattle.std.proofs.Math.Seq.{drop-cons}
use Rattle.std.proofs.lemmas.List.{drop_all}
use Rattle.std.proofs.lemmas.Bool.Decides.{eqb_tells, leb_tells}
use Rattle.model.specs.Lists.{nth_or}
use Rattle.model.specs.Members.{Node, count_members, is_majority, term_at}
use Rattle.model.specs.Steps.{go_on, greatest, holds_to, is_matched}
use Rattle.raft.specs.Below.{greatest_below}
use Rattle.raft.proofs.Lists.{ltb_tells}
use Rattle.raft.proofs.LogFacts.{no_term_below}

-- ---- the greatest that passes

pub greatest_le : (p : ℕ → Bool) (n : ℕ) → greatest p n ≤ n
greatest_le p zero = omega arith
greatest_le p (suc n) = elim (p (suc n)) as (λ b. cond b (suc n) (greatest p n) ≤ suc n) [ true ↦ omega arith | false ↦ omega (arith, greatest_le p n) ]

-- none passes above the lower index
skip : (p : ℕ → Bool) (lo hi : ℕ) → lo ≤ hi → ((j : ℕ) → lo < j → j ≤ hi → p j ≡ false) → greatest p hi ≡ greatest p lo
skip p lo zero le none = let e : lo ≡ zero = omega (arith, le) in rw e refl
skip p lo (suc hi) le none = elim (ltb_tells lo (suc hi)) [
  | inl lt ↦
      let miss : p (suc hi) ≡ false = none (suc hi) lt.1 (omega arith) in
      rw miss (skip p lo hi (omega (arith, lt.1)) (λ j low high. none j low (omega (arith, high))))
  | inr ge ↦ let e : lo ≡ suc hi = omega (arith, le, ge.1) in ap (greatest p) (sym e)
]

-- ---- numbers below a bound

pub below_more : (bound most k v : ℕ) (vs : List ℕ) → k < length vs → v ≡ slice_index_or vs k v → greatest_below bound (drop k vs) ≡ max (if nat_lt v bound then v else 0) (greatest_below bound (drop (k + 1) vs))
below_more bound most k v vs lt is = rw (add-one k, drop-cons vs k v, ← is) refl

pub below_all : (bound k : ℕ) (vs : List ℕ) → length vs ≤ k → greatest_below bound (drop k vs) ≡ 0
below_all bound k vs h = rw (drop_all k vs h) refl

pub below_less : (bound : ℕ) (vs : List ℕ) → 0 < bound → greatest_below bound vs < bound
below_less bound [] h = h
below_less bound (v ∷ vs) h = elim (ltb_tells v bound) [
  | inl lt ↦ rw lt.0 (omega (arith, lt.1, below_less bound vs h))
  | inr ge ↦ rw ge.0 (omega (arith, h, below_less bound vs h))
]

-- each number is not above it, or not below the bound
gap_at : (bound : ℕ) (vs : List ℕ) (k : ℕ) → (nth_or vs (suc k) 0 ≤ greatest_below bound vs) ⊎ (bound ≤ nth_or vs (suc k) 0)
gap_at bound [] k = inl (omega arith)
gap_at bound (v ∷ vs) zero = elim (ltb_tells v bound) [
  | inl lt ↦ inl (rw lt.0 (omega arith))
  | inr ge ↦ inr ge.1
]
gap_at bound (v ∷ vs) (suc k) = elim (gap_at bound vs k) [
  | inl low ↦ inl (omega (arith, low))
  | inr high ↦ inr high
]

gap : (bound : ℕ) (vs : List ℕ) (m : ℕ) → (nth_or vs m 0 ≤ greatest_below bound vs) ⊎ (bound ≤ nth_or vs m 0)
gap bound vs zero = inl (omega arith)
gap bound vs (suc k) = gap_at bound vs k

-- ---- what a majority match

same_count : (n : ℕ) (p q : ℕ → Bool) → ((m : ℕ) → p m ≡ q m) → count_members n p ≡ count_members n q
same_count zero p q h = refl
same_count (suc n) p q h = rw (h (suc n), same_count n p q h) refl

same_test : (lo j i v : ℕ) → lo < j → j ≤ i → (v ≤ lo) ⊎ (i ≤ v) → nat_le j v ≡ nat_le i v
same_test lo j i v low high (inl less) = elim (leb_tells j v) [
  | inl a ↦ absurd (omega (arith, a.1, low, less))
  | inr a ↦ elim (leb_tells i v) [ inl b ↦ absurd (omega (arith, b.1, low, high, less)) | inr b ↦ a.0 ∙ sym b.0 ]
]
same_test lo j i v low high (inr more) = elim (leb_tells j v) [
  | inl a ↦ elim (leb_tells i v) [ inl b ↦ a.0 ∙ sym b.0 | inr b ↦ absurd (omega (arith, b.1, more)) ]
  | inr a ↦ absurd (omega (arith, a.1, high, more))
]

same_majority : (n me : ℕ) (matched : List ℕ) (j i : ℕ) → greatest_below i matched < j → j ≤ i → is_majority n (holds_to me matched j) ≡ is_majority n (holds_to me matched i)
same_majority n me matched j i low high =
    ap (λ k. nat_lt n (2 * k)) (same_count n (holds_to me matched j) (holds_to me matched i) (λ m. ap (λ b. (m == me) || b) (same_test (greatest_below i matched) j i (nth_or matched m 0) low high (gap i matched m))))

and_false : (a b : Bool) → b ≡ false → (a && b) ≡ false
and_false true b e = e
and_false false b e = refl

-- where no majority match an index, none match one above what is matched below it
pub held_skip : (n me i : ℕ) (x : Node) → 0 < i → is_majority n (holds_to me x.matched i) ≡ false → greatest (is_matched n me x) i ≡ greatest (is_matched n me x) (greatest_below i x.matched)
held_skip n me i x first lacks =
    let less = below_less i x.matched first in
    skip (is_matched n me x) (greatest_below i x.matched) i (omega (arith, less)) (λ j low high. and_false (term_at x.log j == x.term) (is_majority n (holds_to me x.matched j)) (same_majority n me x.matched j i low high ∙ lacks))

-- ---- what can be committed

pub commits_low : (n me i : ℕ) (x : Node) → i ≤ x.commit → max x.commit (greatest (is_matched n me x) i) ≡ x.commit
commits_low n me i x low = omega (arith, low, greatest_le (is_matched n me x) i)

unmatched : (n me j : ℕ) (x : Node) → (term_at x.log j ≡ x.term → ⊥) → is_matched n me x j ≡ false
unmatched n me j x other = elim (eqb_tells (term_at x.log j) x.term) [ inl h ↦ absurd (other h.1) | inr h ↦ rw h.0 refl ]

pub commits_none : (n me i : ℕ) (x : Node) → i ≤ length x.log → go_on None x.term x.log ≡ true → (term_at x.log i ≡ x.term → ⊥) → max x.commit (greatest (is_matched n me x) i) ≡ x.commit
commits_none n me i x within rises other =
    let none : greatest (is_matched n me x) i ≡ greatest (is_matched n me x) 0 = skip (is_matched n me x) 0 i (omega arith) (λ j low high. unmatched n me j x (no_term_below x.term x.log j i low high within rises other)) in
    omega (arith, none)
