use Rattle.std.proofs.Common.{◌∙◌, Option, ap}
use Rattle.keep.specs.declared.change.Change.{Change}
use Rattle.node.specs.View.{saves_after}
use Rattle.node.proofs.refused.saves_for_nothing.Goals as goal

pub returns : goal.returns
returns g c = c.store.ensures.saves ∙ ap (λ (change : Option Change). saves_after change (g.K.LogReader.saves c.args.keeper.now)) c.requires.unchanged
