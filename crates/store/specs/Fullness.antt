-- How much of a store's log is full.
use Rattle.std.specs.Prelude.{ℕ, max, Option, Some, None, List, length, fold}

-- how many entries a member's log has: none, where it is not up
abbrev pub entries_of : {N L : Type 0} → Option N → List L → ℕ
entries_of None log = 0
entries_of (Some node) log = length log

-- how many entries the longest log has, where each has so many
abbrev pub longest : {S : Type 0} → List S → (S → ℕ) → ℕ
longest seats entries = fold (λ most seat. max most (entries seat)) 0 seats
