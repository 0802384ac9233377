-- The first of a list that passes a test.
use Rattle.std.proofs.Common.{◌≡◌, ℕ, zero, suc, ◌+◌, ◌<◌, ◌≤◌, Bool, true, false, List, [], ◌∷◌, length, map, Some, None, refl, ap, ◌∙◌, arith, inl, inr}
use Rattle.std.specs.Prelude.{not, nat_lt}
use Rattle.std.specs.List.{slice_get, position, position_or_len}
use Rattle.std.proofs.lemmas.Bool.{cases_eq}
use Rattle.std.proofs.lemmas.Bool.Decides.{nat_tests}
use Rattle.std.proofs.lemmas.List.{length-map}
use Rattle.sqlchecks.proofs.Choices.{if_true, if_false}

-- none before place i passes
abbrev pub NoneBefore : {X Y : Type 0} → (Y → Bool) → (X → Y) → List X → ℕ → Type 0
NoneBefore {X} p f xs i = (k : ℕ) (x : X) → k < i → slice_get xs k ≡ Some x → p (f x) ≡ false

step : {Y : Type 0} (p : Y → Bool) (y : Y) (ys : List Y) → p y ≡ false → position_or_len p (y ∷ ys) ≡ suc (position_or_len p ys)
step p y ys e = if_true (not (p y)) (1 + position_or_len p ys) 0 (ap not e) ∙ omega arith

len_at : {X Y : Type 0} (p : Y → Bool) (f : X → Y) (xs : List X) (i : ℕ) (x : X) → slice_get xs i ≡ Some x → p (f x) ≡ true → NoneBefore p f xs i → (position_or_len p (map f xs) ≡ i) × (i < length xs)
len_at p f [] i x at pass none = absurd (cc)
len_at p f (y ∷ ys) zero x at pass none =
    let same : y ≡ x = cc in
    (if_false (not (p (f y))) (1 + position_or_len p (map f ys)) 0 (ap (λ z. not (p (f z))) same ∙ ap not pass), omega arith)
len_at p f (y ∷ ys) (suc i) x at pass none =
    let rest = len_at p f ys i x at pass (λ k z lt is. none (suc k) z (omega arith) is) in
    (step p (f y) (map f ys) (none 0 y (omega arith) refl) ∙ ap suc rest.0, omega (arith, rest.1))

len_none : {X Y : Type 0} (p : Y → Bool) (f : X → Y) (xs : List X) → ((k : ℕ) (x : X) → slice_get xs k ≡ Some x → p (f x) ≡ false) → position_or_len p (map f xs) ≡ length xs
len_none p f [] none = refl
len_none p f (y ∷ ys) none = step p (f y) (map f ys) (none 0 y refl) ∙ ap suc (len_none p f ys (λ k z is. none (suc k) z is)) ∙ omega arith

pub first_at : {X Y : Type 0} (p : Y → Bool) (f : X → Y) (xs : List X) (i : ℕ) (x : X) → slice_get xs i ≡ Some x → p (f x) ≡ true → NoneBefore p f xs i → position p (map f xs) ≡ Some i
first_at p f xs i x at pass none =
    let k = len_at p f xs i x at pass none in
    let lt : position_or_len p (map f xs) < length (map f xs) = omega (arith, k.0, k.1, length-map xs f) in
    if_true (nat_lt (position_or_len p (map f xs)) (length (map f xs))) (Some (position_or_len p (map f xs))) None (grind (arith, nat_tests)) ∙ ap Some k.0

pub no_first : {X Y : Type 0} (p : Y → Bool) (f : X → Y) (xs : List X) → ((k : ℕ) (x : X) → slice_get xs k ≡ Some x → p (f x) ≡ false) → position p (map f xs) ≡ None
no_first p f xs none =
    let e = len_none p f xs none in
    let le : length (map f xs) ≤ position_or_len p (map f xs) = omega (arith, e, length-map xs f) in
    if_false (nat_lt (position_or_len p (map f xs)) (length (map f xs))) (Some (position_or_len p (map f xs))) None (grind (arith, nat_tests))

get_within : {X : Type 0} (xs : List X) (k : ℕ) (x : X) → slice_get xs k ≡ Some x → k < length xs
get_within [] k x e = absurd (cc)
get_within (y ∷ ys) zero x e = omega arith
get_within (y ∷ ys) (suc k) x e = let h = get_within ys k x e in omega arith

-- where none before the end passes
pub none_at_all : {X Y : Type 0} (p : Y → Bool) (f : X → Y) (xs : List X) (n : ℕ) → length xs ≤ n → NoneBefore p f xs n → position p (map f xs) ≡ None
none_at_all p f xs n le none = no_first p f xs (λ k x is. none k x (let h = get_within xs k x is in omega arith) is)

pub none_more : {X Y : Type 0} (p : Y → Bool) (f : X → Y) (xs : List X) (i : ℕ) (x : X) → slice_get xs i ≡ Some x → p (f x) ≡ false → NoneBefore p f xs i → NoneBefore p f xs (i + 1)
none_more p f xs i x at fails none k y lt is = elim (cases_eq k i) [
  | inl same ↦
      let e : y ≡ x = cc in
      ap (λ z. p (f z)) e ∙ fails
  | inr apart ↦ none k y (omega arith) is
]
