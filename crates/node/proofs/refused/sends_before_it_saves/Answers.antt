use Rattle.std.proofs.Common.{◌∙◌, Option, ap}
use Rattle.keep.specs.Durable.{Durable}
use Rattle.keep.specs.declared.change.Change.{Change}
use Rattle.raft.specs.View.{after_change}
use Rattle.node.proofs.Refusing.{if_ok}
use Rattle.node.proofs.refused.sends_before_it_saves.Goals as goal

pub returns : goal.returns
returns g c = if_ok c.finish.result _ _ c.finish.ensures.ok (λ u ok honest. ap (λ (d : Durable). d.hard) (ok honest) ∙ ap (λ (change : Option Change). (after_change change (g.K.LogReader.stored c.args.keeper.now)).hard) c.requires.1.1.1.1.1.1.1.1.1)
