use Rattle.std.proofs.Common.{map, take}
use Rattle.sha2.specs.Hashers.{Holds256}
use Rattle.flight.specs.Contents.{in_flight}
use Rattle.report.specs.Digests.{all_said}
use Rattle.report.proofs.digests.answers_digest.Given as goal

abbrev pub invariant-loop-flight : goal.invariant-loop-flight
invariant-loop-flight l = Holds256 l.hasher (all_said (map in_flight (take l.flight-index l.flights)))
