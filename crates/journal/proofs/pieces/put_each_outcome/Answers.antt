use Rattle.std.proofs.Common.{◌<◌, length, arith}
use Rattle.flight.specs.Spelling.{outcome_text}
use Rattle.flight.proofs.Adding.{adds_one}
use Rattle.journal.proofs.pieces.put_each_outcome.Goals as goal

pub loop-outcome-preserved : goal.loop-outcome-preserved
loop-outcome-preserved c =
    let within : c.loop-outcome.outcome-index < length c.args.outcomes.now = omega arith in
    adds_one c.args.outcomes.now c.loop-outcome.outcome-index c.outcome-item.result within c.outcome-item.is _ _ _ outcome_text c.loop-outcome.invariant c.in_ok-put_outcome.ensures
