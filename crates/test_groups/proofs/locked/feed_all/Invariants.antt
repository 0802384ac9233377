use Rattle.std.proofs.Common.{◌≡◌}
use Rattle.test_groups.proofs.locked.feed_all.Given as goal

abbrev pub invariant-loop-packet : goal.invariant-loop-packet
invariant-loop-packet g l = l.share.parts ≡ l.initial.share.parts
