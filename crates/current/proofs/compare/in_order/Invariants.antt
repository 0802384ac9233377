use Rattle.std.proofs.Common.{◌≡◌, ◌++◌, map, drop}
use Rattle.current.proofs.compare.in_order.Given as goal

abbrev pub invariant-loop-row : goal.invariant-loop-row
invariant-loop-row l = map (λ row. row.now) l.sorted.items ++ drop l.row-index l.rows ≡ l.rows
