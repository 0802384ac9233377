use Rattle.std.proofs.Common.{take}
use Rattle.store.specs.Became.{EachBecame}
use Rattle.store.specs.Statuses.{IsStatus}
use Rattle.store.proofs.store.Store.status.Given as goal

abbrev pub invariant-loop-seat : goal.invariant-loop-seat
invariant-loop-seat g l = EachBecame (IsStatus g.K.LogReader.is_honest l.self.leader) (take l.seat-index l.self.seats.items) l.all.items
