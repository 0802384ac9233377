-- When a line is drawn of a work, and what it has.
use Rattle.std.specs.Prelude.{◌≤◌, ℕ, List, [], ◌∷◌, ◌++◌, Option, Some, None, codes, decimal}

-- a work of half a second, and a line that stood for a tenth of one, in milliseconds
abbrev pub IsDue : ℕ → Option ℕ → Type 0
IsDue since_begun None = 500 ≤ since_begun
IsDue since_begun (Some since_drawn) = (500 ≤ since_begun) × (100 ≤ since_drawn)

-- to the row's beginning: CR, which is 13
abbrev pub back : List ℕ
back = 13 ∷ []

-- what is left of the row is erased: ESC, which is 27, and its sequence
abbrev pub erased : List ℕ
erased = 27 ∷ codes "[K"

abbrev pub row_text : ℕ → ℕ → List ℕ → ℕ → List ℕ
row_text done all what rate =
    back ++ (decimal done ++ (codes " of " ++ (decimal all ++ (codes " " ++ (what ++ (codes ", " ++ (decimal rate ++ (codes " a second" ++ erased))))))))

abbrev pub judging_text : ℕ → List ℕ
judging_text steps = back ++ (codes "judging " ++ (decimal steps ++ (codes " steps" ++ erased)))
