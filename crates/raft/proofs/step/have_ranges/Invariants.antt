use Rattle.std.proofs.Common.{◌≡◌, true, take}
use Rattle.std.specs.List.{list_all}
use Rattle.raft.specs.View.{is_ranged}
use Rattle.raft.proofs.step.have_ranges.Given as goal

abbrev pub invariant-loop-entry : goal.invariant-loop-entry
invariant-loop-entry l = list_all is_ranged (take l.entry-index l.entries) ≡ true
