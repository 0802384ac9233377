use Rattle.std.proofs.Common.{rules, ◌<◌, length}
use Rattle.script.proofs.Playing.{wrote_more, wrote_part}
use Rattle.script.proofs.writing.print_outputs.Goals as goal

pub returns-in-Err-clause-text : goal.returns-in-Err-clause-text
returns-in-Err-clause-text g c =
    let within : c.loop-output.output-index < length c.args.outputs.now = search rules in
    wrote_part c.args.outputs.now c.loop-output.output-index c.output-item.result _ _ _ c.loop-output.invariant c.in-Err.ensures.text within c.output-item.is

pub loop-output-preserved : goal.loop-output-preserved
loop-output-preserved g c =
    let within : c.loop-output.output-index < length c.args.outputs.now = search rules in
    wrote_more c.args.outputs.now c.loop-output.output-index c.output-item.result _ _ _ c.loop-output.invariant c.in-Ok.ensures.text within c.output-item.is
