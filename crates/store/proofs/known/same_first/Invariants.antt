use Rattle.std.proofs.Common.{◌≡◌, take}
use Rattle.store.proofs.known.same_first.Given as goal

abbrev pub invariant-loop-place : goal.invariant-loop-place
invariant-loop-place l = take l.place l.some ≡ take l.place l.others
