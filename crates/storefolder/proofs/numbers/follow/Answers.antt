use Rattle.std.proofs.Common.{refl}
use Rattle.storefolder.proofs.Follows.{one_more}
use Rattle.storefolder.proofs.numbers.follow.Goals as goal

pub loop-number-preserved : goal.loop-number-preserved
loop-number-preserved c =
    one_more c.args.numbers.now c.loop-number.number-index _ _ _ _ _ c.loop-number.invariant refl c.loop-number-test.true c.in_ok-journals.ensures.first c.in_ok-journals.ensures.last
