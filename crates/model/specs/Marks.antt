-- The order of marks.
use Rattle.std.specs.Prelude.{ℕ, ◌+◌, nat_le, Option, Some, None, if◌then◌else◌}

-- one more, where a mark is left
abbrev pub mark_after : ℕ → Option ℕ
mark_after number = if nat_le 9223372036854775807 number then None else Some (number + 1)
