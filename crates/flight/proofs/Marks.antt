-- The last mark of a life.
use Rattle.std.proofs.Common.{◌≡◌, ℕ, suc, ◌-◌, List, [], ◌∷◌, ◌++◌, length, slice_get, Some, None, refl, sym, ap, subst, arith, ◌⊎◌, ⊎_elim, append-nil}
use Rattle.flight.specs.declared.life.Step.{Step}
use Rattle.flight.specs.declared.life.Ending.{Ending}
use Rattle.flight.specs.declared.life.Ending.TheVariants.{Up, Stopped}
use Rattle.flight.specs.Lives.{last_of, torn_step}

minus_one : (n : ℕ) → suc n - 1 ≡ n
minus_one n = omega arith

-- the last of a list that has one
pub last_some : (mark : ℕ) (xs : List Step) (s : Step) → slice_get xs (length xs - 1) ≡ Some s → last_of mark xs ≡ s.mark
unfolding last_of
last_some mark [] s e = absurd (cc e)
last_some mark (x ∷ []) s e = let h : x ≡ s = cc e in ap (λ v. v.mark) h
last_some mark (x ∷ y ∷ ys) s e =
    let P : ℕ → Type 0 = λ k. slice_get (x ∷ y ∷ ys) k ≡ Some s in
    let at : P (suc (length ys)) = subst P (minus_one (suc (length ys))) e in
    let Q : ℕ → Type 0 = λ k. slice_get (y ∷ ys) k ≡ Some s in
    last_some x.mark (y ∷ ys) s (subst Q (sym (minus_one (length ys))) at)

nothing_there : (x : Step) (xs : List Step) → slice_get (x ∷ xs) (length xs) ≡ None → ⊥
nothing_there x [] e = cc e
nothing_there x (y ∷ ys) e = nothing_there y ys e

pub last_none : (mark : ℕ) (xs : List Step) → slice_get xs (length xs - 1) ≡ None → last_of mark xs ≡ mark
unfolding last_of
last_none mark [] e = refl
last_none mark (x ∷ xs) e =
    let P : ℕ → Type 0 = λ k. slice_get (x ∷ xs) k ≡ None in
    absurd (nothing_there x xs (subst P (minus_one (length xs)) e))

pub last_torn : (mark : ℕ) (xs : List Step) (s : Step) → last_of mark (xs ++ s ∷ []) ≡ s.mark
unfolding last_of
last_torn mark [] s = refl
last_torn mark (x ∷ xs) s = last_torn x.mark xs s

-- an ending that is not torn has no step
pub no_torn_step : (e : Ending) → (e ≡ Up) ⊎ (e ≡ Stopped) → torn_step e ≡ []
no_torn_step e h = ⊎_elim (λ p. ap torn_step p) (λ p. ap torn_step p) h

pub last_whole : (mark : ℕ) (xs more : List Step) (m : ℕ) → more ≡ [] → last_of mark xs ≡ m → last_of mark (xs ++ more) ≡ m
last_whole mark xs more m e h = rw (e, append-nil xs) h
