-- What is written of a text: all of it, or where the writer fails a beginning.
use Rattle.std.specs.Prelude.{◌≡◌, ℕ, List, ◌++◌, Option, Result, MatchResult}
use Rattle.std.specs.Io.KnownBytes.{Appends}

-- known bytes grow by a beginning of the text
abbrev pub AppendsBeginning : Option (List ℕ) → Option (List ℕ) → List ℕ → Type 0
AppendsBeginning old new text = (begun : List ℕ) × (rest : List ℕ) × (begun ++ rest ≡ text) × Appends old new begun

-- at Ok known bytes grow by the text, and at Err by a beginning of it
abbrev pub WritesOrBegins : {E : Type 0} → Option (List ℕ) → Option (List ℕ) → Result (Unit {0}) E → List ℕ → Type 0
WritesOrBegins old new result text = MatchResult result (λ _. Appends old new text) (λ _. AppendsBeginning old new text)

-- at Ok the sink took the text, and at Err it may have begun it
abbrev pub Puts : {S E : Type 0} → (S → List ℕ → S → Type 0) → (S → List ℕ → S → Type 0) → S → Result (Unit {0}) E → List ℕ → S → Type 0
Puts takes begins old result text new = MatchResult result (λ _. takes old text new) (λ _. begins old text new)
