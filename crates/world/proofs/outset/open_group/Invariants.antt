use Rattle.std.proofs.Common.{◌≡◌, ◌+◌, ℕ, None, Some, length, replicate, slice_get}
use Rattle.model.specs.Worlds.{fresh}
use Rattle.world.specs.declared.seat.Seat.{Seat}
use Rattle.world.specs.View.{nodes_of, IsSeat}
use Rattle.world.proofs.outset.open_group.Given as goal

abbrev pub invariant-loop-index : goal.invariant-loop-index
invariant-loop-index l = record {
  count : length l.seats.items ≡ l.index;
  each : (k : ℕ) (s : Seat) → slice_get l.seats.items k ≡ Some s → IsSeat l.fn.schema l.members (k + 1) s;
  nodes : nodes_of l.seats.items ≡ replicate l.index (fresh 0 None);
}
