use Rattle.std.proofs.Common.{◌≡◌, take}
use Rattle.moments.specs.Moments.{listed}
use Rattle.moments.proofs.listing.list_all.Given as goal

abbrev pub invariant-loop-place : goal.invariant-loop-place
invariant-loop-place l = l.moments.items ≡ listed l.answers 1 (take l.place l.lives)
