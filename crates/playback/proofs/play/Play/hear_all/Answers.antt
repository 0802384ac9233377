use Rattle.std.proofs.Common.{arith}
use Rattle.playback.specs.Scenes.{scene_of}
use Rattle.playback.proofs.Tellings.{first_wording, next_wording}
use Rattle.playback.proofs.play.Play.hear_all.Goals as goal

pub loop-output-init : goal.loop-output-init
loop-output-init c = first_wording (scene_of c.args.self.now) c.args.job.now

pub loop-output-preserved : goal.loop-output-preserved
loop-output-preserved c =
    next_wording c.args.job.now (scene_of c.args.self.now) (scene_of c.loop-output.self) (scene_of c.hear_output.new.self) c.args.outputs.now c.loop-output.output-index c.output-item.result (omega arith) c.output-item.is c.loop-output.invariant c.in_ok-hear_output.ensures
