use Rattle.std.proofs.Common.{◌≡◌, ◌-◌, ◌≤◌, None, vec_len}
use Rattle.std.specs.Prelude.{All}
use Rattle.storeviews.proofs.windows.Windows.new.Given as goal

abbrev pub invariant-loop-windows : goal.invariant-loop-windows
invariant-loop-windows l = record {
  most : vec_len l.windows ≤ l.members;
  none : All (λ w. w ≡ None) l.windows.items;
}

abbrev pub decreases-loop-windows : goal.decreases-loop-windows
decreases-loop-windows l = l.members - vec_len l.windows
