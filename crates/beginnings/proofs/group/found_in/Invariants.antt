use Rattle.std.proofs.Common.{map, take}
use Rattle.flight.specs.Contents.{in_flight}
use Rattle.beginnings.specs.Beginnings.{AreFound}
use Rattle.beginnings.proofs.group.found_in.Given as goal

abbrev pub invariant-loop-place : goal.invariant-loop-place
invariant-loop-place l = AreFound (map in_flight (take l.place l.flights)) (take l.place l.seen) l.found.items
