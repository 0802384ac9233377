use Rattle.std.proofs.Common.{◌≡◌, map, take}
use Rattle.std.specs.Prelude.{All}
use Rattle.flight.specs.Contents.{in_flight}
use Rattle.flight.specs.declared.flight.Flight.{Flight}
use Rattle.beginnings.specs.Beginnings.{beginning_of}
use Rattle.beginnings.specs.Lines.{IsKept}
use Rattle.beginnings.proofs.group.beginnings_of.Given as goal

abbrev pub invariant-loop-flight : goal.invariant-loop-flight
invariant-loop-flight l = record {
  value : l.all.items ≡ map (λ (f : Flight). beginning_of (in_flight f)) (take l.flight-index l.flights);
  range : All IsKept l.all.items;
}
