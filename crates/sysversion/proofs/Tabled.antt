-- What is touched of each table, one table after another.
use Rattle.std.proofs.Common.{◌++◌, refl, ◌≡◌, ℕ, zero, suc, ◌+◌, ◌≤◌, List, [], ◌∷◌, length, drop, get_or, Some, sym, ap, ◌<◌, arith}
use Rattle.std.specs.Prelude.{slice_get, slice_set}
use Rattle.std.specs.Option.{option_map_or}
use Rattle.model.specs.Tables.{Row}
use Rattle.current.specs.Places.{rows_at}

pub rows_at_head : {A : Type 0} (f : A → List Row) (xs : List A) (n : ℕ) (y : A) (ys : List A) → drop n xs ≡ y ∷ ys → rows_at f xs n ≡ f y
rows_at_head f [] zero y ys e = cc
rows_at_head f [] (suc n) y ys e = cc
rows_at_head f (x ∷ xs) zero y ys e = let same : x ≡ y = cc in ap f same
rows_at_head f (x ∷ xs) (suc n) y ys e = rows_at_head f xs n y ys e

drop_tail : {A : Type 0} (xs : List A) (n : ℕ) (y : A) (ys : List A) → drop n xs ≡ y ∷ ys → drop (suc n) xs ≡ ys
drop_tail [] zero y ys e = cc
drop_tail [] (suc n) y ys e = cc
drop_tail (x ∷ xs) zero y ys e = cc
drop_tail (x ∷ xs) (suc n) y ys e = drop_tail xs n y ys e

pub drop_next : {A : Type 0} (xs : List A) (n m : ℕ) (y : A) (ys : List A) → m ≡ n + 1 → drop n xs ≡ y ∷ ys → ys ≡ drop m xs
drop_next xs n m y ys e h = let next : m ≡ suc n = omega arith in let tail : drop (suc n) xs ≡ ys = drop_tail xs n y ys h in rw next (cc)

pub drop_all : {A : Type 0} (xs : List A) (n : ℕ) → length (drop n xs) ≡ 0 → length xs ≤ n
drop_all [] n e = omega arith
drop_all (x ∷ xs) zero e = absurd (omega (arith, e))
drop_all (x ∷ xs) (suc n) e = let less : length xs ≤ n = drop_all xs n e in omega arith

-- one more table without anything
pub none_more : {A B : Type 0} (f : A → List B) (xs : List A) (x : A) → f x ≡ [] → ((n : ℕ) → option_map_or f (slice_get xs n) [] ≡ []) → (n : ℕ) → option_map_or f (slice_get (xs ++ x ∷ []) n) [] ≡ []
none_more f [] x e h zero = e
none_more f [] x e h (suc n) = refl
none_more f (y ∷ xs) x e h zero = h zero
none_more f (y ∷ xs) x e h (suc n) = none_more f xs x e (λ k. h (suc k)) n

-- ---- one table changes

pub set_here : {A B : Type 0} (f : A → List B) (xs : List A) (i : ℕ) (x w : A) → slice_get xs i ≡ Some x → option_map_or f (slice_get (slice_set xs i w) i) [] ≡ f w
set_here f [] i x w h = cc
set_here f (y ∷ xs) zero x w h = refl
set_here f (y ∷ xs) (suc i) x w h = set_here f xs i x w h

pub set_other : {A B : Type 0} (f : A → List B) (xs : List A) (i n : ℕ) (w : A) → (n ≡ i → ⊥) → option_map_or f (slice_get (slice_set xs i w) n) [] ≡ option_map_or f (slice_get xs n) []
set_other f [] i n w h = refl
set_other f (y ∷ xs) zero zero w h = absurd (h refl)
set_other f (y ∷ xs) zero (suc n) w h = refl
set_other f (y ∷ xs) (suc i) zero w h = refl
set_other f (y ∷ xs) (suc i) (suc n) w h = set_other f xs i n w (λ e. h (ap suc e))

pub got : {A : Type 0} (xs : List A) (i : ℕ) (x : A) → i < length xs → x ≡ get_or xs i x → slice_get xs i ≡ Some x
got [] i x l e = absurd (omega arith)
got (y ∷ xs) zero x l e = ap Some (sym e)
got (y ∷ xs) (suc i) x l e = got xs i x (omega arith) e

-- past the last there is nothing
pub past_end : {A B : Type 0} (f : A → List B) (xs : List A) (i : ℕ) → length xs ≤ i → option_map_or f (slice_get xs i) [] ≡ []
past_end f [] i l = refl
past_end f (y ∷ xs) zero l = absurd (omega arith)
past_end f (y ∷ xs) (suc i) l = past_end f xs i (omega arith)
