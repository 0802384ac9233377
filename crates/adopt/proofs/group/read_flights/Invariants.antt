use Rattle.std.proofs.Common.{take}
use Rattle.std.specs.List.{AllZip}
use Rattle.adopt.specs.Group.{IsRead}
use Rattle.adopt.proofs.group.read_flights.Given as goal

abbrev pub invariant-loop-text : goal.invariant-loop-text
invariant-loop-text l = AllZip IsRead (take l.text-index l.texts) l.flights.items
