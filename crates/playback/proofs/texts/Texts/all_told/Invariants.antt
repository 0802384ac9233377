use Rattle.std.proofs.Common.{◌≡◌, take}
use Rattle.flight.specs.Telling.{outcomes_of}
use Rattle.world.specs.View.{outputs_of}
use Rattle.playback.specs.Words.{told_in}
use Rattle.playback.proofs.texts.Texts.all_told.Given as goal

abbrev pub invariant-loop-output : goal.invariant-loop-output
invariant-loop-output l = l.all.items ≡ outcomes_of (told_in (outputs_of (take l.output-index l.outputs)))
