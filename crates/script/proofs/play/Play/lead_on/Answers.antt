use Rattle.script.specs.Plays.{stage_of, tables_of, members_of}
use Rattle.script.specs.Stage.{turns, spread_or_said}
use Rattle.script.proofs.Recovering.{both, first_fails}
use Rattle.script.proofs.play.Play.lead_on.Goals as goal

pub returns-in-Err-clause-plays : goal.returns-in-Err-clause-plays
returns-in-Err-clause-plays g c =
    let first = c.args.self.now in
    first_fails first c.take_turns.new.self c.requires.live (turns (tables_of first) (members_of first) 2 c.args.node (stage_of first)) _ _
    (spread_or_said (tables_of first) (members_of first) c.args.node c.args.longest) c.in-Err.fault c.take_turns.new.self c.in-Err.ensures.plays

pub returns-clause-plays : goal.returns-clause-plays
returns-clause-plays g c =
    let first = c.args.self.now in
    both first c.take_turns.new.self c.requires.live (turns (tables_of first) (members_of first) 2 c.args.node (stage_of first)) _ _
    (λ t n s. spread_or_said t n c.args.node c.args.longest s) c.spread_or_say.result c.spread_or_say.new.self _ c.in_default.ensures.plays c.spread_or_say.ensures.plays
