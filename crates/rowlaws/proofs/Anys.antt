-- Tests of lists by their elements.
use Rattle.std.proofs.Common.{◌≡◌, inl, inr, Bool, true, false, ◌||◌, List, [], ◌∷◌, map, refl, sym, ap, ◌∙◌, subst}
use Rattle.std.specs.List.{list_any}
use Rattle.std.proofs.lemmas.Bool.{cases_Bool, or_right}
use Rattle.rowlaws.specs.Rows.{Has}
use Rattle.rowlaws.proofs.RowFacts.{both}

module _ {A : Type 0} where
  pub any_has : (f : A → Bool) (xs : List A) → list_any f xs ≡ true → (x : A) × Has xs x × (f x ≡ true)
  any_has f [] h = absurd (both h refl)
  any_has f (x ∷ xs) h = elim (cases_Bool (f x)) [
    | inl y ↦ (x, inl refl, y)
    | inr n ↦ let m = any_has f xs (subst (λ b. (b || list_any f xs) ≡ true) n h) in (m.0, inr m.1, m.2)
  ]

  pub has_any : (f : A → Bool) (xs : List A) (x : A) → Has xs x → f x ≡ true → list_any f xs ≡ true
  has_any f [] x h e = absurd h
  has_any f (y ∷ xs) x (inl i) e = rw (sym (ap f i) ∙ e) refl
  has_any f (y ∷ xs) x (inr h) e = or_right (f y) (list_any f xs) (has_any f xs x h e)

pub same_test : (a b : Bool) → (a ≡ true → b ≡ true) → (b ≡ true → a ≡ true) → a ≡ b
same_test true b f g = sym (f refl)
same_test false true f g = absurd (both (g refl) refl)
same_test false false f g = refl

-- a test of elements that are seen as others
pub any_map : {A B : Type 0} (p : B → Bool) (f : A → B) (xs : List A) → list_any p (map f xs) ≡ list_any (λ x. p (f x)) xs
any_map p f [] = refl
any_map p f (x ∷ xs) = ap (λ b. p (f x) || b) (any_map p f xs)
