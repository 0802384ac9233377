use Rattle.std.proofs.Common.{◌≡◌, ◌++◌, map}
use Rattle.std.specs.Vec.Iter.{into_iter_items}
use Rattle.shell.specs.Pilots.{answers_in}
use Rattle.shell.proofs.pilot.answers_of.Given as goal

abbrev pub invariant-loop-station : goal.invariant-loop-station
invariant-loop-station l = map answers_in l.fn.stations.items ≡ l.answers.items ++ map answers_in (into_iter_items l.station-iterator)
