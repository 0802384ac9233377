use Rattle.std.proofs.Common.{arith}
use Rattle.moments.specs.Posts.{past_with}
use Rattle.moments.proofs.Posting.{none_among}
use Rattle.moments.proofs.posts.number_among.Goals as goal

pub returns-clause-none : goal.returns-clause-none
returns-clause-none c =
    let end = c.loop-place-test.false in
    none_among (past_with c.args.world.now c.args.marks.now) c.args.mark c.args.message.now (λ k less. c.loop-place.invariant k (omega (arith, less, end)))
