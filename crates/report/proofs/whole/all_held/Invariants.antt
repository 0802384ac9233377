use Rattle.std.proofs.Common.{◌≡◌, map, take}
use Rattle.flight.specs.Contents.{in_flight}
use Rattle.flight.specs.declared.flight.Flight.{Flight}
use Rattle.report.specs.Whole.{held_of}
use Rattle.report.proofs.whole.all_held.Given as goal

abbrev pub invariant-loop-flight : goal.invariant-loop-flight
invariant-loop-flight l = l.held.items ≡ map (λ (f : Flight). held_of (in_flight f)) (take l.flight-index l.flights)
