-- What is added to a text.
use Rattle.std.specs.Prelude.{◌≡◌, ℕ, List, ◌++◌}

-- whatever follows, it follows what was added
abbrev pub Adds : List ℕ → List ℕ → (List ℕ → List ℕ) → Type 0
Adds old new spelled = (rest : List ℕ) → new ++ rest ≡ old ++ spelled rest
