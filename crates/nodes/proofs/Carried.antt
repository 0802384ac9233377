-- What holds of the same seat, of the elements of a list that are left, and of a result without an error.
use Rattle.std.proofs.Common.{◌≡◌, false, All, List, ◌∷◌, Result, Ok, Err, is_err, OnOk}
use Rattle.std.proofs.lemmas.List.Elements.{All-head, All-rest, All-same}

pub all_first : {X : Type 0} (P : X → Type 0) (x : X) (xs ys : List X) → ys ≡ x ∷ xs → All P ys → P x
all_first P x xs ys e h = let all : All P (x ∷ xs) = rw e at h in All-head P x xs all

pub all_left : {X : Type 0} (P : X → Type 0) (x : X) (xs ys : List X) → ys ≡ x ∷ xs → All P ys → All P xs
all_left P x xs ys e h = All-rest P x xs ys e h

pub all_same : {X : Type 0} (P : X → Type 0) (xs ys : List X) → xs ≡ ys → All P ys → All P xs
all_same P xs ys e h = All-same P xs ys e h

pub on_ok : {A E : Type 0} (r : Result A E) (P : Type 0) → is_err r ≡ false → OnOk r P → P
on_ok (Ok x) P e h = h
on_ok (Err x) P e h = absurd (cc e)
