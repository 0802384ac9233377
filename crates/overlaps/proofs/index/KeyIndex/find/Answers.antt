use Rattle.std.proofs.Common.{map, sym, subst}
use Rattle.overlaps.specs.Index.{AreApart}
use Rattle.overlaps.specs.Items.{items_in}
use Rattle.overlaps.proofs.index.KeyIndex.find.Goals as goal

pub first_sharing-requires : goal.first_sharing-requires
first_sharing-requires g c = subst (λ o. AreApart (map g.T.HasPeriod.period (items_in o))) (sym c.in_ok-strand.ensures.value) (c.args.self.now.apart c.args.key.now)
