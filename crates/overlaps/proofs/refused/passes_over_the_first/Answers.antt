use Rattle.std.proofs.Common.{◌∙◌}
use Rattle.model.specs.Periods.{period_of}
use Rattle.overlaps.specs.Index.{shares_day}
use Rattle.overlaps.specs.Items.{items_of}
use Rattle.overlaps.proofs.Refusing.{found_past}
use Rattle.overlaps.proofs.refused.passes_over_the_first.Goals as goal

pub returns : goal.returns
returns g c =
    let stored = items_of c.args.index.now.strands c.args.key.now in
    let r = c.requires in
    c.find.ensures.item ∙ found_past (λ x. shares_day (period_of c.args.p) (g.T.HasPeriod.period x)) stored g.items.0 g.items.1 g.items.2 r.1.0 r.1.1.0 r.1.1.1
