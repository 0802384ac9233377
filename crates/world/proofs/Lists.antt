-- Lists that grow at the end.
use Rattle.std.proofs.Common.{◌≡◌, ℕ, zero, suc, ◌⊎◌, inl, inr, ⊎_elim, Some, List, [], ◌∷◌, ◌++◌, map, length, slice_get, refl, ap}
use Rattle.std.proofs.lemmas.Option.{same_Some}

pub map_append : {A B : Type 0} (f : A → B) (xs ys : List A) → map f (xs ++ ys) ≡ map f xs ++ map f ys
map_append f [] ys = refl
map_append f (x ∷ xs) ys = ap (λ zs. f x ∷ zs) (map_append f xs ys)

-- what a list has after one more
pub push_get : {A : Type 0} (xs : List A) (v s : A) (k : ℕ) → slice_get (xs ++ v ∷ []) k ≡ Some s → (slice_get xs k ≡ Some s) ⊎ ((k ≡ length xs) × (v ≡ s))
push_get [] v s zero e = inr (refl, same_Some v s e)
push_get [] v s (suc k) e = inl e
push_get (x ∷ xs) v s zero e = inl e
push_get (x ∷ xs) v s (suc k) e = ⊎_elim (λ h. inl h) (λ h. inr (ap suc h.0, h.1)) (push_get xs v s k e)
