use Rattle.store.specs.Closing.{IsAtRest}
use Rattle.store.proofs.Became.{FirstBecame}
use Rattle.store.proofs.databases.Databases.of.Given as goal

abbrev pub invariant-loop-at : goal.invariant-loop-at
invariant-loop-at g l = FirstBecame (IsAtRest g.K.LogReader.may_hold g.K.Keeper.holds) l.at l.initial.seats.items l.seats.items
