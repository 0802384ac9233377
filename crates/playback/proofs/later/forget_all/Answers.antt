use Rattle.std.proofs.Common.{◌∙◌, ap}
use Rattle.std.proofs.Math.Seq.{map-set_same}
use Rattle.playback.specs.declared.actor.Actor.{Actor}
use Rattle.playback.specs.Standings.{standing_of}
use Rattle.playback.proofs.later.forget_all.Goals as goal

pub loop-actor-preserved : goal.loop-actor-preserved
loop-actor-preserved c =
    map-set_same (λ (a : Actor). standing_of a.doing) c.loop-actor.actors c.loop-actor.actor-index c.forget.new.self c.actor-item.result (ap standing_of c.forget.ensures) ∙ c.loop-actor.invariant
