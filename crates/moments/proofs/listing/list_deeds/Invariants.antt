use Rattle.std.proofs.Common.{◌≡◌, ◌++◌, take}
use Rattle.moments.specs.Moments.{deed_moments}
use Rattle.moments.proofs.listing.list_deeds.Given as goal

abbrev pub invariant-loop-place : goal.invariant-loop-place
invariant-loop-place l = l.moments.items ≡ l.initial.moments.items ++ deed_moments l.node 0 (take l.place l.lives)
