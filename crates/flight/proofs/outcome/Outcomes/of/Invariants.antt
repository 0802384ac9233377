use Rattle.std.proofs.Common.{◌≡◌, take}
use Rattle.flight.specs.Telling.{outcomes_of}
use Rattle.flight.proofs.outcome.Outcomes.of.Given as goal

abbrev pub invariant-loop-one : goal.invariant-loop-one
invariant-loop-one l = l.outcomes.items ≡ outcomes_of (take l.one-index l.told)
