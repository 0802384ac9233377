use Rattle.script.specs.Plays.{stage_of, tables_of, members_of}
use Rattle.script.specs.Stage.{nothing, all_lost, led_on}
use Rattle.script.proofs.Recovering.{led_then_lost, first_fails}
use Rattle.script.proofs.play.Play.lead_by.Goals as goal

pub returns-in-Err-clause-plays : goal.returns-in-Err-clause-plays
returns-in-Err-clause-plays g c =
    let first = c.args.self.now in
    first_fails first c.lead_on.new.self c.requires.live (led_on (tables_of first) (members_of first) c.args.node c.args.longest (stage_of first)) _ _
    (λ s. nothing (all_lost s)) c.in-Err.fault c.lead_on.new.self c.in-Err.ensures.plays

pub returns-clause-plays : goal.returns-clause-plays
returns-clause-plays g c =
    led_then_lost c.args.self.now c.lead_on.new.self c.lose_all.new.self c.args.node c.args.longest _ _ c.requires.live c.in_default.ensures.plays c.lose_all.ensures.stage c.lose_all.ensures.world
