use Rattle.std.proofs.Common.{◌<◌, ◌+◌, ℕ}
use Rattle.moments.specs.Posts.{past_with, IsSentThen}
use Rattle.moments.proofs.posts.number_among.Given as goal

abbrev pub invariant-loop-place : goal.invariant-loop-place
invariant-loop-place l = (k : ℕ) → k < l.place → IsSentThen (past_with l.world l.marks) l.mark l.message (k + 1) → ⊥
