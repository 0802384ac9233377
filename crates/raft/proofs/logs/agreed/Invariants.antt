use Rattle.std.proofs.Common.{◌≡◌, ◌+◌, drop}
use Rattle.model.specs.Members.{agreed}
use Rattle.raft.proofs.logs.agreed.Given as goal

abbrev pub invariant-loop-entry : goal.invariant-loop-entry
invariant-loop-entry l = record { place : l.index ≡ l.start + l.entry-index; same : agreed l.log l.start l.entries ≡ agreed l.log l.index (drop l.entry-index l.entries) }
