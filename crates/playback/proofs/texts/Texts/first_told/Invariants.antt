use Rattle.std.proofs.Common.{◌≡◌, take}
use Rattle.flight.specs.Telling.{outcomes_of}
use Rattle.world.specs.View.{outputs_of}
use Rattle.playback.specs.Words.{first_told, noted_after, told_in}
use Rattle.playback.proofs.texts.Texts.first_told.Given as goal

abbrev pub invariant-loop-output : goal.invariant-loop-output
invariant-loop-output l = record {
  first : l.first.items ≡ outcomes_of (first_told l.noted (told_in (outputs_of (take l.output-index l.outputs))));
  last : l.last ≡ noted_after l.noted (told_in (outputs_of (take l.output-index l.outputs)));
}
