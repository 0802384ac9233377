use Rattle.std.proofs.Common.{◌≡◌, take}
use Rattle.adopt.specs.Lines.{first_told}
use Rattle.adopt.proofs.told.first_told.Given as goal

abbrev pub invariant-loop-outcome : goal.invariant-loop-outcome
invariant-loop-outcome l = l.first.items ≡ first_told l.noted (take l.outcome-index l.outcomes)
