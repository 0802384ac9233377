use Rattle.std.proofs.Common.{◌≡◌, take}
use Rattle.world.specs.View.{outputs_of}
use Rattle.playback.specs.Scenes.{scene_of, wording}
use Rattle.playback.proofs.play.Play.hear_all.Given as goal

abbrev pub invariant-loop-output : goal.invariant-loop-output
invariant-loop-output l = scene_of l.self ≡ wording (scene_of l.initial.self) l.job (outputs_of (take l.output-index l.outputs))
