use Rattle.std.proofs.Common.{◌≡◌, take}
use Rattle.store.specs.Seats.{missing_in}
use Rattle.store.proofs.members.Members.missing.Given as goal

abbrev pub invariant-loop-seat : goal.invariant-loop-seat
invariant-loop-seat g l = l.missing.items ≡ missing_in (take l.seat-index l.self.seats.items)
