use Rattle.std.proofs.Common.{arith}
use Rattle.playback.proofs.Tellings.{next_all}
use Rattle.playback.proofs.texts.Texts.all_told.Goals as goal

pub loop-output-preserved : goal.loop-output-preserved
loop-output-preserved c =
    next_all c.loop-output.all.items c.put_any.new.all.items c.args.outputs.now c.loop-output.output-index c.output-item.result (omega arith) c.output-item.is c.loop-output.invariant c.in_ok-put_any.ensures
