-- What is published and pending once the writer has taken all.
use Rattle.std.proofs.Common.{◌≡◌, ℕ, ◌≤◌, List, [], ◌++◌, length, take, drop, sym, ◌∙◌}
use Rattle.std.proofs.lemmas.List.{take_all, drop_all, take-append-drop}

pub all_taken : {A : Type 0} (n m : ℕ) (xs : List A) → length xs ≤ n → take n xs ≡ take m xs ++ drop m xs
all_taken n m xs le = take_all n xs le ∙ sym (take-append-drop m xs)

pub none_left : {A : Type 0} (n : ℕ) (xs : List A) → length xs ≤ n → drop n xs ≡ []
none_left n xs le = drop_all n xs le
