use Rattle.std.proofs.Common.{◌≡◌, ◌++◌, take}
use Rattle.moments.specs.Moments.{answer_moments}
use Rattle.moments.proofs.listing.list_answers.Given as goal

abbrev pub invariant-loop-place : goal.invariant-loop-place
invariant-loop-place l = l.moments.items ≡ l.initial.moments.items ++ answer_moments l.node 0 (take l.place l.answers)
