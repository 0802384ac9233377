-- How reads are counted.
use Rattle.std.specs.Prelude.{ℕ, min, ◌+◌, ◌^◌, ◌-◌}

-- so many reads more; the greatest count stays
abbrev pub more : ℕ → ℕ → ℕ
more reads n = min (n + reads) (2 ^ 64 - 1)

-- one read more
abbrev pub one_more : ℕ → ℕ
one_more n = more 1 n
