use Rattle.std.proofs.Common.{◌≡◌, take}
use Rattle.store.specs.Fullness.{entries_of, longest}
use Rattle.store.proofs.room.most_entries.Given as goal

abbrev pub invariant-loop-seat : goal.invariant-loop-seat
invariant-loop-seat g l = l.entries ≡ longest (take l.seat-index l.seats) (λ seat. entries_of seat.node seat.chain.links.items)
