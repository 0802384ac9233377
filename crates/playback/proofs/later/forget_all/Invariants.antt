use Rattle.std.proofs.Common.{◌≡◌}
use Rattle.playback.specs.Scenes.{standings}
use Rattle.playback.proofs.later.forget_all.Given as goal

abbrev pub invariant-loop-actor : goal.invariant-loop-actor
invariant-loop-actor l = standings l.actors ≡ standings l.initial.actors
