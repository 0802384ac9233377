use Rattle.std.proofs.Common.{◌≡◌, take}
use Rattle.world.specs.View.{outputs_of}
use Rattle.moments.specs.Behind.{outcomes_in}
use Rattle.moments.proofs.told.told_in.Given as goal

abbrev pub invariant-loop-output : goal.invariant-loop-output
invariant-loop-output l = l.told.items ≡ outcomes_in (outputs_of (take l.output-index l.outputs))
