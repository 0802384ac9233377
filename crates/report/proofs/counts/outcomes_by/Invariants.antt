use Rattle.std.proofs.Common.{◌≡◌, take, length}
use Rattle.std.specs.List.{sum_by}
use Rattle.flight.specs.declared.life.Step.{Step}
use Rattle.report.proofs.counts.outcomes_by.Given as goal

abbrev pub invariant-loop-step : goal.invariant-loop-step
invariant-loop-step l = l.count ≡ sum_by (λ (s : Step). length s.outcomes) (take l.step-index l.steps)
