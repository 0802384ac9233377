-- One step of a list after the other.
use Rattle.std.proofs.Common.{◌≡◌, List, [], ◌∷◌, ◌++◌, map, Option, Some, None, Result, Ok, Err, refl, sym, ap, ◌∙◌, append_assoc}
use Rattle.std.proofs.lemmas.List.{append-nil}
use Rattle.std.specs.Prelude.{option_map, option_to_list}
use Rattle.transfer.specs.declared.unread.Fault.{Fault}
use Rattle.transfer.specs.Faults.{◌>>=◌, found_in}

-- these, and then what each of the others gives in turn
abbrev pub found_after : {A B : Type 0} → (A → Result (Option B) Fault) → List B → List A → Result (List B) Fault
found_after f front [] = Ok front
found_after f front (a ∷ more) = f a >>= λ b. found_after f (front ++ option_to_list b) more

abbrev with_front : {B : Type 0} → List B → Result (List B) Fault → Result (List B) Fault
with_front front (Ok bs) = Ok (front ++ bs)
with_front front (Err e) = Err e

push_front : {B : Type 0} (front more : List B) (r : Result (List B) Fault) → with_front front (r >>= λ bs. Ok (more ++ bs)) ≡ with_front (front ++ more) r
push_front front more (Ok bs) = ap Ok (sym (append_assoc front more bs))
push_front front more (Err e) = refl

found_behind : {A B : Type 0} (f : A → Result (Option B) Fault) (front : List B) (xs : List A) → with_front front (found_in f xs) ≡ found_after f front xs
found_behind f front [] = ap Ok (append-nil front)
found_behind {A} {B} f front (a ∷ more) = at (f a) (λ b. push_front front (option_to_list b) (found_in f more) ∙ found_behind f (front ++ option_to_list b) more) where
  at : (r : Result (Option B) Fault) → ((b : Option B) → with_front front (found_in f more >>= λ bs. Ok (option_to_list b ++ bs)) ≡ found_after f (front ++ option_to_list b) more) → with_front front (r >>= λ b. found_in f more >>= λ bs. Ok (option_to_list b ++ bs)) ≡ (r >>= λ b. found_after f (front ++ option_to_list b) more)
  at (Ok b) h = h b
  at (Err e) h = refl

no_front : {B : Type 0} (r : Result (List B) Fault) → r ≡ with_front [] r
no_front (Ok bs) = refl
no_front (Err e) = refl

-- each in turn, from nothing on
pub found_is : {A B : Type 0} (f : A → Result (Option B) Fault) (xs : List A) → found_in f xs ≡ found_after f [] xs
found_is f xs = no_front (found_in f xs) ∙ found_behind f [] xs

-- the images of a list and of one more, if there is one
pub map_kept : {A B : Type 0} (f : A → B) (xs : List A) (o : Option A) → map f (xs ++ option_to_list o) ≡ map f xs ++ option_to_list (option_map f o)
map_kept f [] None = refl
map_kept f [] (Some x) = refl
map_kept f (x ∷ xs) o = ap (λ ys. f x ∷ ys) (map_kept f xs o)
