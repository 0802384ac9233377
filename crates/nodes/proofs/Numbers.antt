-- Numbers that count on.
use Rattle.std.proofs.Common.{◌≡◌, ◌+◌, ◌++◌, ◌∷◌, [], ℕ, zero, suc, List, map, ap, sym, ◌∙◌, arith}
use Rattle.std.specs.List.{range_with_len}
use Rattle.std.proofs.lemmas.List.{map_push}

range_push : (a n : ℕ) → range_with_len a (suc n) ≡ range_with_len a n ++ (a + n) ∷ []
range_push a zero = ap (λ k. k ∷ []) (omega arith)
range_push a (suc n) = ap (λ xs. a ∷ xs) (range_push (a + 1) n ∙ ap (λ k. range_with_len (a + 1) n ++ k ∷ []) (omega arith))

pub counts_on : {X : Type 0} (f : X → ℕ) (xs : List X) (x : X) (a n k : ℕ) → map f xs ≡ range_with_len a n → f x ≡ a + n → k ≡ n + 1 → map f (xs ++ x ∷ []) ≡ range_with_len a k
counts_on f xs x a n k e v w =
    let more : suc n ≡ k = omega (arith, w) in
    map_push f xs x ∙ ap (λ ys. ys ++ f x ∷ []) e ∙ ap (λ m. range_with_len a n ++ m ∷ []) v ∙ sym (range_push a n) ∙ ap (range_with_len a) more
