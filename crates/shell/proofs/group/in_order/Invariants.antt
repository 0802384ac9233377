use Rattle.std.proofs.Common.{◌≡◌, ◌++◌, length}
use Rattle.std.specs.Prelude.{IsPermutation}
use Rattle.shell.specs.Reading.{InOrder}
use Rattle.shell.proofs.group.in_order.Given as goal

abbrev pub invariant-loop-at : goal.invariant-loop-at
invariant-loop-at l = record {
  moved : IsPermutation l.fn.flights.items (l.ordered.items ++ l.left.items);
  ordered : InOrder l.ordered.items;
  count : length l.ordered.items ≡ l.at;
  end : l.at-end ≡ length l.fn.flights.items;
}
