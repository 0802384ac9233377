use Rattle.std.proofs.Common.{take}
use Rattle.moments.specs.Rising.{Rise}
use Rattle.moments.proofs.order.check_order.Given as goal

abbrev pub invariant-loop-place : goal.invariant-loop-place
invariant-loop-place l = Rise (take l.place l.lives)
