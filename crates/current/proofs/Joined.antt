-- Rows by the number of their table, where tables are added one after another.
use Rattle.std.proofs.Common.{◌≡◌, ℕ, zero, suc, ◌<◌, ◌≤◌, ◌+◌, List, [], ◌∷◌, ◌++◌, length, refl, sym, ◌∙◌, arith, inl, inr, subst}
use Rattle.std.proofs.lemmas.Bool.{cases_lt}
use Rattle.model.specs.Tables.{Row}
use Rattle.rowlaws.specs.Touching.{removed_both, added_both, rows_without}
use Rattle.current.specs.Places.{rows_at}

module _ {A : Type 0} (f : A → List Row) where
  pub rows_at-beyond : (xs : List A) (n : ℕ) → length xs ≤ n → rows_at f xs n ≡ []
  rows_at-beyond [] n h = refl
  rows_at-beyond (x ∷ xs) zero h = absurd (omega arith)
  rows_at-beyond (x ∷ xs) (suc n) h = rows_at-beyond xs n (omega arith)

  before_last : (xs : List A) (y : A) (n : ℕ) → n < length xs → rows_at f (xs ++ y ∷ []) n ≡ rows_at f xs n
  before_last [] y n h = absurd (omega arith)
  before_last (x ∷ xs) y zero h = refl
  before_last (x ∷ xs) y (suc n) h = before_last xs y n (omega arith)

  at_last : (xs : List A) (y : A) → rows_at f (xs ++ y ∷ []) (length xs) ≡ f y
  at_last [] y = refl
  at_last (x ∷ xs) y = at_last xs y

  -- what is so of each table before, and of the one more, is so of all
  pub push_each : (xs : List A) (y : A) (g : ℕ → List Row) → ((n : ℕ) → n < length xs → rows_at f xs n ≡ g n) → f y ≡ g (length xs) → (n : ℕ) → n < length xs + 1 → rows_at f (xs ++ y ∷ []) n ≡ g n
  push_each xs y g h e n l = elim (cases_lt n (length xs)) [
    | inl before ↦ before_last xs y n before ∙ h n before
    | inr at ↦ let i : n ≡ length xs = omega arith in subst (λ m. rows_at f (xs ++ y ∷ []) m ≡ g m) (sym i) (at_last xs y ∙ e)
  ]

pub none_both : (removed added later : List Row) → removed ≡ [] → later ≡ [] → removed_both removed added later ≡ []
unfolding rows_without
none_both removed added later g l = rw (g, l) refl

pub none_added : (added removed later : List Row) → added ≡ [] → later ≡ [] → added_both added removed later ≡ []
unfolding rows_without
none_added added removed later c l = rw (c, l) refl

-- one more table without rows
pub none_pushed : {A : Type 0} (f : A → List Row) (xs : List A) (y : A) → f y ≡ [] → (n : ℕ) → rows_at f (xs ++ y ∷ []) n ≡ rows_at f xs n
none_pushed f [] y e zero = e
none_pushed f [] y e (suc n) = refl
none_pushed f (x ∷ xs) y e zero = refl
none_pushed f (x ∷ xs) y e (suc n) = none_pushed f xs y e n
