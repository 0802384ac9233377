use Rattle.model.specs.declared.message.Input.TheVariants.{Timeout, Beat}
use Rattle.model.specs.Worlds.Event.{Hand}
use Rattle.script.specs.Plays.{stage_of, tables_of, members_of}
use Rattle.script.specs.Stage.{event_at}
use Rattle.script.proofs.Recovering.{both, first_fails}
use Rattle.script.proofs.play.Play.stir.Goals as goal

pub returns-in-Err-clause-plays : goal.returns-in-Err-clause-plays
returns-in-Err-clause-plays g c =
    let first = c.args.self.now in
    first_fails first c.happen.new.self c.requires.live (event_at (tables_of first) (members_of first) (stage_of first) (Hand c.args.node Timeout)) _ _
    (λ s. event_at (tables_of first) (members_of first) s (Hand c.args.node Beat)) c.in-Err.fault c.happen.new.self c.in-Err.ensures.plays

pub returns-clause-plays : goal.returns-clause-plays
returns-clause-plays g c =
    let first = c.args.self.now in
    both first c.happen.new.self c.requires.live (event_at (tables_of first) (members_of first) (stage_of first) (Hand c.args.node Timeout)) _ _
    (λ t n s. event_at t n s (Hand c.args.node Beat)) c.happen-2.result c.happen-2.new.self _ c.in_default.ensures.plays c.happen-2.ensures.plays
