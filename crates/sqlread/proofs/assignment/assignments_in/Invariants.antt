use Rattle.std.proofs.Common.{◌≡◌, map, drop, []}
use Rattle.sqlsyntax.specs.Transactions.{assignment_form}
use Rattle.sqlread.specs.Changes.{assignments_after}
use Rattle.sqlread.proofs.assignment.assignments_in.Given as goal

-- the assignments so far, and those that are left, make the whole
abbrev pub invariant-loop-text : goal.invariant-loop-text
invariant-loop-text l = assignments_after l.table [] (map assignment_form l.texts) ≡ assignments_after l.table l.assignments.items (map assignment_form (drop l.text-index l.texts))
