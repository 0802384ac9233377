use Rattle.script.proofs.Playing.{delivers_some, delivers_none}
use Rattle.script.proofs.play.Play.deliver.Goals as goal

pub returns-in-Some-clause-plays : goal.returns-in-Some-clause-plays
returns-in-Some-clause-plays g c = delivers_some c.args.self.now c.deliver_at.new.self c.deliver_at.result _ _ c.in-Some.place c.args.number c.in-Some.ensures.some.0 c.deliver_at.ensures.plays

pub returns-in-None-clause-plays : goal.returns-in-None-clause-plays
returns-in-None-clause-plays g c = delivers_none c.args.self.now c.args.number _ c.in-None.ensures.none c.requires.live
