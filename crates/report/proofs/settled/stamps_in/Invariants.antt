use Rattle.std.proofs.Common.{◌≡◌, ◌++◌, drop}
use Rattle.report.specs.Settled.{stamps_in}
use Rattle.report.proofs.settled.stamps_in.Given as goal

abbrev pub invariant-loop-outcome : goal.invariant-loop-outcome
invariant-loop-outcome l = l.stamps.items ++ stamps_in (drop l.outcome-index l.outcomes) ≡ stamps_in l.outcomes
