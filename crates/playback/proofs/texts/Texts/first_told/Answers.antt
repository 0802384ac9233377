use Rattle.std.proofs.Common.{arith}
use Rattle.playback.proofs.Tellings.{next_firsts, next_noted}
use Rattle.playback.proofs.texts.Texts.first_told.Goals as goal

pub loop-output-preserved : goal.loop-output-preserved
loop-output-preserved c = record {
  first = next_firsts c.args.noted c.loop-output.last c.loop-output.first.items c.put_first.new.first.items c.args.outputs.now c.loop-output.output-index c.output-item.result (omega arith) c.output-item.is c.loop-output.invariant.last c.loop-output.invariant.first c.in_ok-last.ensures.first;
  last = next_noted c.args.noted c.loop-output.last c.in_ok-last.last c.args.outputs.now c.loop-output.output-index c.output-item.result (omega arith) c.output-item.is c.loop-output.invariant.last c.in_ok-last.ensures.noted;
}
