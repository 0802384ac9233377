-- Rows by the number of their table, after one of them changed.
use Rattle.std.proofs.Common.{◌≡◌, ℕ, zero, suc, ◌<◌, ◌==◌, Bool, true, false, cond, List, [], ◌∷◌, ◌++◌, length, get_or, refl, sym, ap, ◌∙◌, subst, inl, inr, arith, eq-eqb}
use Rattle.std.proofs.lemmas.Bool.{cases_Bool, eqb-true}
use Rattle.std.proofs.Math.ListN.{set}
use Rattle.std.specs.Prelude.{slice_get}
use Rattle.std.specs.Option.{option_map_or}
use Rattle.model.specs.Tables.{Row}
use Rattle.rowlaws.proofs.RowFacts.{both}
use Rattle.current.specs.Places.{rows_at}

module _ {A : Type 0} (f : A → List Row) where
  pub rows_at-is : (xs : List A) (n : ℕ) (d : A) → n < length xs → rows_at f xs n ≡ f (get_or xs n d)
  rows_at-is [] n d l = absurd (omega arith)
  rows_at-is (x ∷ xs) zero d l = refl
  rows_at-is (x ∷ xs) (suc n) d l = rows_at-is xs n d (omega arith)

  set_here : (xs : List A) (n : ℕ) (y : A) → n < length xs → rows_at f (set xs n y) n ≡ f y
  set_here [] n y l = absurd (omega arith)
  set_here (x ∷ xs) zero y l = refl
  set_here (x ∷ xs) (suc n) y l = set_here xs n y (omega arith)

  set_other : (xs : List A) (n : ℕ) (y : A) (m : ℕ) → (m ≡ n → ⊥) → rows_at f (set xs n y) m ≡ rows_at f xs m
  set_other [] n y m h = refl
  set_other (x ∷ xs) zero y zero h = absurd (h refl)
  set_other (x ∷ xs) zero y (suc m) h = refl
  set_other (x ∷ xs) (suc n) y zero h = refl
  set_other (x ∷ xs) (suc n) y (suc m) h = set_other xs n y m (λ e. h (ap suc e))

  pub rows_at-set : (xs : List A) (n : ℕ) (y : A) (m : ℕ) → n < length xs → rows_at f (set xs n y) m ≡ cond (m == n) (f y) (rows_at f xs m)
  rows_at-set xs n y m l = elim (cases_Bool (m == n)) [
    | inl same ↦ let e = eqb-true m n same in rw same (subst (λ k. rows_at f (set xs n y) k ≡ f y) (sym e) (set_here xs n y l))
    | inr other ↦ rw other (set_other xs n y m (λ e. both (eq-eqb m n e) other))
  ]

  -- all are without rows, and one more is
  pub none_more : (xs : List A) (y : A) → f y ≡ [] → ((n : ℕ) → rows_at f xs n ≡ []) → (n : ℕ) → rows_at f (xs ++ y ∷ []) n ≡ []
  none_more [] y e h zero = e
  none_more [] y e h (suc n) = refl
  none_more (x ∷ xs) y e h zero = h 0
  none_more (x ∷ xs) y e h (suc n) = none_more xs y e (λ m. h (suc m)) n

  pub rows_at-got : (xs : List A) (n : ℕ) → rows_at f xs n ≡ option_map_or f (slice_get xs n) []
  rows_at-got [] n = refl
  rows_at-got (x ∷ xs) zero = refl
  rows_at-got (x ∷ xs) (suc n) = rows_at-got xs n

-- more rows in one of them
module _ {A : Type 0} (f : A → List Row) (xs : List A) (n : ℕ) (x y : A) (more : List Row) (below : n < length xs) (here : x ≡ get_or xs n x) (added : f y ≡ f x ++ more) where
  pub rows_at-more : (m : ℕ) → rows_at f (set xs n y) m ≡ cond (m == n) (rows_at f xs m ++ more) (rows_at f xs m)
  rows_at-more m = rows_at-set f xs n y m below ∙ by (m == n) (λ e. eqb-true m n e)
    where
      by : (b : Bool) → (b ≡ true → m ≡ n) → cond b (f y) (rows_at f xs m) ≡ cond b (rows_at f xs m ++ more) (rows_at f xs m)
      by true e = added ∙ ap (λ rows. rows ++ more) (ap f here ∙ sym (rows_at-is f xs n x below) ∙ sym (ap (rows_at f xs) (e refl)))
      by false e = refl
