use Rattle.std.proofs.Common.{◌∙◌, ap, None}
use Rattle.std.specs.Prelude.{if◌then◌else◌}
use Rattle.model.specs.Lists.{nth}
use Rattle.world.specs.Run.{member_of}
use Rattle.world.specs.View.{if_up, commit_in}
use Rattle.script.specs.Plays.{stage_of}
use Rattle.script.proofs.Recovering.{applied_some, applied_none}
use Rattle.script.proofs.play.Play.applied.Goals as goal

pub returns-in-Some : goal.returns-in-Some
returns-in-Some c =
    applied_some (if_up (nth (stage_of c.args.self.now).world.nodes c.args.node)) c.in-Some.applied
    (c.in-Some.ensures ∙ ap (λ b. if b then None else commit_in (member_of c.args.self.now.world c.args.node)) c.requires.live)

pub returns-in-None : goal.returns-in-None
returns-in-None c =
    applied_none (if_up (nth (stage_of c.args.self.now).world.nodes c.args.node))
    (c.in-None.ensures ∙ ap (λ b. if b then None else commit_in (member_of c.args.self.now.world c.args.node)) c.requires.live)
