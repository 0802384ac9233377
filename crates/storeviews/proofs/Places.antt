-- What stands at a place of a list, once one place is written; and all places, one after another.
use Rattle.std.proofs.Common.{◌≡◌, ◌⊎◌, inl, inr, ℕ, zero, suc, ◌+◌, ◌-◌, ◌<◌, ◌≤◌, Bool, true, false, nat_lt, nat_eq, Option, Some, None, List, [], ◌∷◌, length, get_or, set, refl, sym, ap, arith}
use Rattle.std.specs.Prelude.{All, slice_get}
use Rattle.std.specs.Option.{option_and_then}
use Rattle.std.proofs.lemmas.Bool.Decides.{nat_tests}
use Rattle.store.specs.Applied.{found}

got_same : {A : Type 0} (xs : List A) (at : ℕ) (v : A) → at < length xs → slice_get (set xs at v) at ≡ Some v
got_same [] at v h = absurd (omega (arith, h))
got_same (x ∷ xs) zero v h = refl
got_same (x ∷ xs) (suc at) v h = got_same xs at v (omega (arith, h))

got_other : {A : Type 0} (xs : List A) (at i : ℕ) (v : A) → (i ≡ at → ⊥) → slice_get (set xs at v) i ≡ slice_get xs i
got_other [] at i v h = refl
got_other (x ∷ xs) zero zero v h = absurd (h refl)
got_other (x ∷ xs) zero (suc i) v h = refl
got_other (x ∷ xs) (suc at) zero v h = refl
got_other (x ∷ xs) (suc at) (suc i) v h = got_other xs at i v (λ e. h (ap suc e))

got_there : {A : Type 0} (xs : List A) (at : ℕ) (x : A) → at < length xs → x ≡ get_or xs at x → slice_get xs at ≡ Some x
got_there [] at x h is = absurd (omega (arith, h))
got_there (y ∷ xs) zero x h is = ap Some (sym is)
got_there (y ∷ xs) (suc at) x h is = got_there xs at x (omega (arith, h)) is

got_beyond : {A : Type 0} (xs : List A) (i : ℕ) → length xs ≤ i → slice_get xs i ≡ None
got_beyond [] i h = refl
got_beyond (x ∷ xs) zero h = absurd (omega (arith, h))
got_beyond (x ∷ xs) (suc i) h = got_beyond xs i (omega (arith, h))

-- of a list whose elements may be missing

pub found_there : {A : Type 0} (xs : List (Option A)) (at : ℕ) (x : Option A) → at < length xs → x ≡ get_or xs at x → found xs at (λ y. y) ≡ x
found_there {A = A} xs at x low got = ap (λ (o : Option (Option A)). option_and_then (λ y. y) o) (got_there xs at x low got)

-- a place that is written
pub found_written : {A : Type 0} (xs : List (Option A)) (at : ℕ) (v : Option A) → at < length xs → found (set xs at v) at (λ y. y) ≡ v
found_written {A = A} xs at v low = ap (λ (o : Option (Option A)). option_and_then (λ y. y) o) (got_same xs at v low)

-- and the others
pub found_others : {A : Type 0} (xs : List (Option A)) (at : ℕ) (v : Option A) → (i : ℕ) → (i ≡ at → ⊥) → found (set xs at v) i (λ y. y) ≡ found xs i (λ y. y)
found_others {A = A} xs at v i other = ap (λ (o : Option (Option A)). option_and_then (λ y. y) o) (got_other xs at i v other)

pub found_beyond : {A : Type 0} (xs : List (Option A)) (i : ℕ) → length xs ≤ i → found xs i (λ y. y) ≡ None
found_beyond {A = A} xs i far = ap (λ (o : Option (Option A)). option_and_then (λ y. y) o) (got_beyond xs i far)

-- ---- cases

before_by : (i n : ℕ) (b : Bool) → nat_lt i n ≡ b → (i < n) ⊎ (n ≤ i)
before_by i n true is = let low : i < n = grind (arith, nat_tests) in inl low
before_by i n false is = let high : n ≤ i = grind (arith, nat_tests) in inr high

pub before_or : (i n : ℕ) → (i < n) ⊎ (n ≤ i)
before_or i n = before_by i n (nat_lt i n) refl

same_by : (i n : ℕ) (b : Bool) → nat_eq i n ≡ b → (i ≡ n) ⊎ (i ≡ n → ⊥)
same_by i n true is = let same : i ≡ n = grind (arith, nat_tests) in inl same
same_by i n false is = inr (λ same. let other : ⊥ = grind (arith, nat_tests) in other)

pub same_or : (i n : ℕ) → (i ≡ n) ⊎ (i ≡ n → ⊥)
same_or i n = same_by i n (nat_eq i n) refl

-- a member has so many before it
pub before_next : (at : ℕ) → at + 1 - 1 ≡ at
before_next at = omega arith

-- a list in which each is missing
pub found_none : {A : Type 0} (xs : List (Option A)) → All (λ x. x ≡ None) xs → (i : ℕ) → found xs i (λ y. y) ≡ None
found_none [] h i = refl
found_none (x ∷ xs) h zero = h zero x (omega arith)
found_none (x ∷ xs) h (suc i) = found_none xs (λ k d low. h (suc k) d (omega (arith, low))) i
