use Rattle.std.proofs.Common.{◌≡◌, take}
use Rattle.moments.proofs.told.are_same_outcomes.Given as goal

abbrev pub invariant-loop-place : goal.invariant-loop-place
invariant-loop-place l = take l.place l.some ≡ take l.place l.others
