-- The numbers that are found, and then those of the messages from this one on, are those of all.
use Rattle.std.proofs.Common.{◌≡◌, ◌++◌, ◌+◌, drop}
use Rattle.lanes.specs.Fates.{under_way_from}
use Rattle.lanes.proofs.fates.Fates.under_way.Given as goal

abbrev pub invariant-loop-at : goal.invariant-loop-at
invariant-loop-at l = l.numbers.items ++ under_way_from (l.at + 1) (drop l.at l.fate-items) ≡ under_way_from 1 l.fate-items
