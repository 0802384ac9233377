use Rattle.std.proofs.Common.{◌≡◌, ◌++◌, take}
use Rattle.moments.specs.Moments.{step_moments}
use Rattle.moments.proofs.listing.list_life.Given as goal

abbrev pub invariant-loop-step : goal.invariant-loop-step
invariant-loop-step l = l.moments.items ≡ l.initial.moments.items ++ step_moments l.node l.place 0 (take l.step l.life.steps.items)
