-- Numbers below a bound.
use Rattle.std.specs.Prelude.{ℕ, max, nat_lt, if◌then◌else◌, List, [], ◌∷◌}

-- the greatest of these numbers below the bound, or 0
abbrev pub greatest_below : ℕ → List ℕ → ℕ
greatest_below bound [] = 0
greatest_below bound (v ∷ vs) = max (if nat_lt v bound then v else 0) (greatest_below bound vs)
