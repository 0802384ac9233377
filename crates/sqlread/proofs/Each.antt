-- A list that is checked in turn.
use Rattle.std.proofs.Common.{◌≡◌, ℕ, ◌+◌, ◌<◌, ◌≤◌, Bool, true, false, List, [], ◌∷◌, ◌++◌, length, map, drop, get_or, Result, Ok, Err, refl, sym, ◌∙◌, ap, append_assoc}
use Rattle.std.specs.Prelude.{◌&&◌}
use Rattle.std.specs.List.{list_all}
use Rattle.std.proofs.lemmas.List.{append-nil, at_drop_more, drop_all}
use Rattle.fault.specs.declared.refusal.Refusal.{Refusal}
use Rattle.sqlchecks.specs.Answering.{◌>>=◌, each_of}

-- what was made before, and what is still made
abbrev pub with_front : {B : Type 0} → List B → Result (List B) Refusal → Result (List B) Refusal
with_front front made = made >>= λ bs. Ok (front ++ bs)

module _ {X A B : Type 0} (f : A → Result B Refusal) (form : X → A) (xs : List X) where
  -- these were made of the first so many, and the others are left
  pub record IsMade (i : ℕ) (done : List B) : Type 0 where
    pub same : with_front done (each_of f (map form (drop i xs))) ≡ each_of f (map form xs)

  left : ℕ → Result (List B) Refusal
  left i = each_of f (map form (drop i xs))

-- ---- a test of each

module _ {X A : Type 0} (p : A → Bool) (form : X → A) (xs : List X) where
  -- the others pass just where all do
  pub record PassesSoFar (i : ℕ) : Type 0 where
    pub same : list_all p (map form (drop i xs)) ≡ list_all p (map form xs)

  next : (i : ℕ) (x : X) (b : Bool) → i < length xs → x ≡ get_or xs i x → p (form x) ≡ b → list_all p (map form (drop i xs)) ≡ (b && list_all p (map form (drop (i + 1) xs)))
  next i x b h is test = at_drop_more (λ l. list_all p (map form l)) xs i x h ∙ ap (λ (y : X). p (form y) && list_all p (map form (drop (i + 1) xs))) (sym is) ∙ ap (λ (a : Bool). a && list_all p (map form (drop (i + 1) xs))) test

  pub pass_next : (i : ℕ) (x : X) → i < length xs → PassesSoFar i → x ≡ get_or xs i x → p (form x) ≡ true → PassesSoFar (i + 1)
  pass_next i x h so is test = record { same = sym (next i x true h is test) ∙ so.same }

  pub pass_failed : (i : ℕ) (x : X) → i < length xs → PassesSoFar i → x ≡ get_or xs i x → p (form x) ≡ false → list_all p (map form xs) ≡ false
  pass_failed i x h so is test = sym so.same ∙ next i x false h is test

  pub pass_end : (i : ℕ) → length xs ≤ i → PassesSoFar i → list_all p (map form xs) ≡ true
  pass_end i h so = sym so.same ∙ ap (λ (l : List X). list_all p (map form l)) (drop_all i xs h)
