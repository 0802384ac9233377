use Rattle.std.proofs.Common.{refl}
use Rattle.fault.specs.declared.refusal.Refusal.TheVariants.{NoMemory}
use Rattle.script.specs.declared.run_fault.RunFault.TheVariants.{Refused}
use Rattle.script.specs.Plays.{stage_of, tables_of, members_of}
use Rattle.script.specs.Stage.{all_led_on}
use Rattle.script.proofs.Playing.{nothing_yet}
use Rattle.script.proofs.Recovering.{all_led}
use Rattle.script.proofs.play.Play.lead_all.Goals as goal

pub returns-in-Ok-clause-plays : goal.returns-in-Ok-clause-plays
returns-in-Ok-clause-plays g c =
    all_led c.args.self.now c.survey.new.self c.lead_by.new.self c.in-Ok.node c.in-Ok.longest c.lead_by.result _ _ c.requires.live c.in-Ok.ensures.still c.in-Ok.ensures.foremost c.in-Ok.ensures.longest c.lead_by.ensures.plays

pub returns-in-Err-clause-plays : goal.returns-in-Err-clause-plays
returns-in-Err-clause-plays g c =
    let first = c.args.self.now in
    nothing_yet first.world c.survey.new.self (Refused NoMemory) (all_led_on (tables_of first) (members_of first) (stage_of first)) _ refl
