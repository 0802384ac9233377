-- What holds of each element that a loop has come to.
use Rattle.std.proofs.Common.{◌≡◌, ◌∙◌, ◌<◌, ◌≤◌, ℕ, ◌+◌, List, [], ◌∷◌, ◌++◌, take, get_or, length, sym, ap, subst}
use Rattle.std.specs.List.{All}
use Rattle.std.proofs.lemmas.List.{take_more, take_all}
use Rattle.std.proofs.lemmas.List.Elements.{All-push}

pub all_more : {X : Type 0} (P : X → Type 0) (xs : List X) (i : ℕ) (x : X) → i < length xs → x ≡ get_or xs i x → All P (take i xs) → P x → All P (take (i + 1) xs)
all_more {X} P xs i x within is all one =
    let Q : List X → Type 0 = λ ys. All P ys in
    subst Q (ap (λ y. take i xs ++ y ∷ []) is ∙ sym (take_more xs i x within)) (All-push P (take i xs) x all one)

pub all_of : {X : Type 0} (P : X → Type 0) (xs : List X) (i : ℕ) → length xs ≤ i → All P (take i xs) → All P xs
all_of {X} P xs i past all =
    let Q : List X → Type 0 = λ ys. All P ys in
    subst Q (take_all i xs past) all
