-- Lemmas on texts whose quotes are doubled.
use Rattle.std.proofs.Common.{◌≡◌, ◌≢◌, ℕ, suc, ◌<◌, List, [], ◌∷◌, ◌++◌, length, get_or, refl, ap, arith}
use borrow.Author.Tests.{ne_eqb}
use Rattle.model.specs.Texts.{doubled}

-- a text without quotes
abbrev pub HasNoQuote : List ℕ → Type 0
HasNoQuote x = (i : ℕ) → i < length x → get_or x i 0 ≢ 39

without_first : (b : ℕ) (x : List ℕ) → HasNoQuote (b ∷ x) → HasNoQuote x
without_first b x none = λ i lt. none (suc i) (omega arith)

-- what stands before the first quote stays
pub doubled_at : (x rest : List ℕ) → HasNoQuote x → doubled (x ++ 39 ∷ rest) ≡ x ++ (39 ∷ 39 ∷ doubled rest)
doubled_at [] rest none = refl
doubled_at (b ∷ x) rest none = rw (ne_eqb b 39 (none 0 (omega arith))) (ap (λ l. b ∷ l) (doubled_at x rest (without_first b x none)))

pub doubled_none : (x : List ℕ) → HasNoQuote x → doubled x ≡ x
doubled_none [] none = refl
doubled_none (b ∷ x) none = rw (ne_eqb b 39 (none 0 (omega arith))) (ap (λ l. b ∷ l) (doubled_none x (without_first b x none)))
