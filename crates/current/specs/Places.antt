-- Rows by the number of their table.
use Rattle.std.specs.Prelude.{ℕ, zero, suc, List, [], ◌∷◌}
use Rattle.model.specs.Tables.{Row}

-- the rows that f gives of the n-th, or none
abbrev pub rows_at : {A : Type 0} → (A → List Row) → List A → ℕ → List Row
rows_at f [] n = []
rows_at f (x ∷ xs) zero = f x
rows_at f (x ∷ xs) (suc n) = rows_at f xs n
