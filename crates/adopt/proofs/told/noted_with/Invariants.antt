use Rattle.std.proofs.Common.{◌≡◌, take}
use Rattle.adopt.specs.Lines.{noted_with}
use Rattle.adopt.proofs.told.noted_with.Given as goal

abbrev pub invariant-loop-outcome : goal.invariant-loop-outcome
invariant-loop-outcome l = l.most ≡ noted_with l.noted (take l.outcome-index l.outcomes)
