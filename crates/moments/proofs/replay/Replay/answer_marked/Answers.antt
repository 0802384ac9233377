use Rattle.moments.specs.Behind.{IsAnswered}
use Rattle.moments.specs.Rising.{IsMarked}
use Rattle.moments.specs.View.{past_of}
use Rattle.moments.specs.declared.recorded.AuditFault.TheVariants.{Wrong}
use Rattle.world.specs.Run.{tables_in, members_in}
use Rattle.moments.proofs.Following.{marked_fault}
use Rattle.std.proofs.Common.{◌≡◌}
use Rattle.moments.proofs.replay.Replay.answer_marked.Goals as goal

pub returns-clause-fault : goal.returns-clause-fault
returns-clause-fault c =
    let old = c.args.self.now in
    marked_fault c.answer.result (λ f. f ≡ Wrong c.args.node c.args.mark) (IsMarked c.args.lives.now c.args.recorded.now) (IsAnswered (tables_in old.world) (members_in old.world) (past_of old) c.args.node c.args.recorded.now) c.answer.ensures.fault
