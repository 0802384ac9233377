use Rattle.std.proofs.Common.{◌≡◌}
use Rattle.examples.proofs.stress.feeding.feed_on.Given as goal

abbrev pub invariant-loop : goal.invariant-loop
invariant-loop g l = l.share.parts ≡ l.initial.share.parts
