use Rattle.std.proofs.Common.{◌≤◌, ◌+◌, ◌-◌, ◌<◌, ◌^◌, ℕ, length}
use Rattle.std.specs.List.{prefix_len}
use Rattle.overlaps.proofs.Sharing.{ended}
use Rattle.overlaps.proofs.Halves.{AreWithin}
use Rattle.overlaps.proofs.order.first_after.Given as goal

abbrev pub invariant-loop-low : goal.invariant-loop-low
invariant-loop-low g l =
    (l.low ≤ prefix_len (ended g.T.HasPeriod.period l.fn.day.number) l.fn.items)
    × (prefix_len (ended g.T.HasPeriod.period l.fn.day.number) l.fn.items ≤ l.high)
    × (l.high ≤ length l.fn.items)
    × (l.fn.count ≤ l.count)
    × ((digits : ℕ) → length l.fn.items < 2 ^ digits → AreWithin (l.high - l.low) l.count (l.fn.count + digits))

abbrev pub decreases-loop-low : goal.decreases-loop-low
decreases-loop-low g l = l.high - l.low
