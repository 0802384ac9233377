use Rattle.std.proofs.Common.{◌≡◌}
use Rattle.playback.specs.Scenes.{scene_of}
use Rattle.playback.proofs.play.Play.last_known.Given as goal

abbrev pub invariant-loop-less : goal.invariant-loop-less
invariant-loop-less l = scene_of l.self ≡ scene_of l.initial.self
