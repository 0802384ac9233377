use Rattle.std.proofs.Common.{length}
use Rattle.store.specs.Starting.{IsStarted}
use Rattle.store.specs.Opening.{Starts}
use Rattle.store.proofs.Became.{FirstBecame}
use Rattle.store.proofs.members.start_seats.Given as goal

abbrev pub invariant-loop-at : goal.invariant-loop-at
invariant-loop-at g l = record {
  starts : FirstBecame (Starts g.K.LogReader.is_honest g.K.LogReader.may_hold g.K.Keeper.holds l.schema (length l.initial.seats.items)) l.at l.initial.seats.items l.seats.items;
  up : FirstBecame (IsStarted g.K.LogReader.is_honest) l.at l.initial.seats.items l.seats.items;
}
