use Rattle.std.proofs.Common.{◌≡◌, take}
use Rattle.node.proofs.recall.is_beginning.Given as goal

abbrev pub invariant-loop-place : goal.invariant-loop-place
invariant-loop-place l = take l.place l.entries ≡ take l.place l.first
