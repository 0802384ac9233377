use Rattle.std.proofs.Common.{take}
use Rattle.shell.specs.Reading.{AreRead}
use Rattle.shell.proofs.group.read_flights.Given as goal

abbrev pub invariant-loop-text : goal.invariant-loop-text
invariant-loop-text l = AreRead (take l.text-index l.texts) l.flights.items
