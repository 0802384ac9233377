use Rattle.std.proofs.Common.{◌≡◌, take, length}
use Rattle.std.specs.List.{sum_by}
use Rattle.flight.specs.declared.flight.Flight.{Flight}
use Rattle.report.proofs.whole.given_in.Given as goal

abbrev pub invariant-loop-flight : goal.invariant-loop-flight
invariant-loop-flight l = l.given ≡ sum_by (λ (f : Flight). length f.answers.items) (take l.flight-index l.flights)
