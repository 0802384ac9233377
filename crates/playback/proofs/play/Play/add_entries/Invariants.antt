use Rattle.std.proofs.Common.{◌≡◌}
use Rattle.playback.specs.Scenes.{scene_of}
use Rattle.playback.proofs.play.Play.add_entries.Given as goal

abbrev pub invariant-loop-index : goal.invariant-loop-index
invariant-loop-index l = scene_of l.self ≡ scene_of l.initial.self
