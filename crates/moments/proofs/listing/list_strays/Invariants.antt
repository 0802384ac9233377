use Rattle.std.proofs.Common.{◌≡◌, ◌++◌, take}
use Rattle.moments.specs.Moments.{stray_moments}
use Rattle.moments.proofs.listing.list_strays.Given as goal

abbrev pub invariant-loop-place : goal.invariant-loop-place
invariant-loop-place l = l.moments.items ≡ l.initial.moments.items ++ stray_moments l.members 0 (take l.place l.answers)
