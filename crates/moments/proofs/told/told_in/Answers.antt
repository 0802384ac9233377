use Rattle.std.proofs.Common.{rules, ◌<◌, length}
use Rattle.moments.proofs.Taking.{told_more}
use Rattle.moments.proofs.told.told_in.Goals as goal

pub loop-output-preserved : goal.loop-output-preserved
loop-output-preserved c =
    let within : c.loop-output.output-index < length c.args.outputs.now = search rules in
    told_more c.loop-output.told.items c.add_told.new.outcomes.items c.args.outputs.now c.loop-output.output-index c.output-item.result
    c.loop-output.invariant c.in_ok-add_told.ensures within c.output-item.is
