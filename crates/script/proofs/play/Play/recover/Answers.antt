use Rattle.std.proofs.Common.{length}
use Rattle.script.specs.Plays.{stage_of, tables_of, members_of}
use Rattle.script.specs.Stage.{starts, all_led_on}
use Rattle.script.proofs.Recovering.{both, first_fails}
use Rattle.script.proofs.play.Play.recover.Goals as goal

pub returns-in-Err-clause-plays : goal.returns-in-Err-clause-plays
returns-in-Err-clause-plays g c =
    let first = c.args.self.now in
    first_fails first c.start_all.new.self c.requires.live (starts (tables_of first) (members_of first) (length first.clocks.items) 1 (stage_of first)) _ _
    (all_led_on (tables_of first) (members_of first)) c.in-Err.fault c.start_all.new.self c.in-Err.ensures.plays

pub returns-clause-plays : goal.returns-clause-plays
returns-clause-plays g c =
    let first = c.args.self.now in
    both first c.start_all.new.self c.requires.live (starts (tables_of first) (members_of first) (length first.clocks.items) 1 (stage_of first)) _ _
    (λ t n s. all_led_on t n s) c.lead_all.result c.lead_all.new.self _ c.in_default.ensures.plays c.lead_all.ensures.plays
