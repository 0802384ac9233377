use Rattle.std.proofs.Common.{◌<◌, length, arith}
use Rattle.flight.specs.Spelling.{step_text}
use Rattle.flight.proofs.Adding.{adds_one}
use Rattle.flight.proofs.writing.put_steps.Goals as goal

pub loop-step-preserved : goal.loop-step-preserved
loop-step-preserved c =
    let within : c.loop-step.step-index < length c.args.steps.now = omega arith in
    adds_one c.args.steps.now c.loop-step.step-index c.step-item.result within c.step-item.is _ _ _ (step_text c.args.version) c.loop-step.invariant c.in_ok-put_step.ensures
