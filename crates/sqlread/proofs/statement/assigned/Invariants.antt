use Rattle.std.proofs.Common.{◌≡◌, drop}
use Rattle.sqlread.specs.Meaning.{set_of}
use Rattle.sqlread.proofs.Lists.{set_after}
use Rattle.sqlread.proofs.statement.assigned.Given as goal

-- the values so far, and those that are left, make the whole
abbrev pub invariant-loop-place : goal.invariant-loop-place
invariant-loop-place l = set_of l.assignments l.old ≡ set_after l.assignments l.values.items l.place (drop l.place l.old)
