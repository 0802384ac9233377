use Rattle.std.proofs.Common.{◌≡◌, ◌++◌, drop}
use Rattle.flight.specs.Lives.{all_steps, torn_step}
use Rattle.moments.specs.Rising.{marks_rise}
use Rattle.moments.proofs.order.first_fallen_step.Given as goal

abbrev pub invariant-loop-step : goal.invariant-loop-step
invariant-loop-step l = marks_rise l.life.opening.mark (all_steps l.life) ≡ marks_rise l.last (drop l.step-index l.life.steps.items ++ torn_step l.life.ending)
