use Rattle.std.proofs.Common.{◌<◌, ◌^◌, length, map, sym, subst}
use Rattle.model.specs.Periods.{period_of}
use Rattle.overlaps.specs.Index.{AreApart, AreSharing}
use Rattle.overlaps.specs.Items.{items_in}
use Rattle.overlaps.proofs.index.KeyIndex.sharing.Goals as goal

pub sharing-requires : goal.sharing-requires
sharing-requires g c = subst (λ o. AreApart (map g.T.HasPeriod.period (items_in o))) (sym c.in-Some.ensures.value) (c.args.self.now.apart c.args.key.now)

pub returns-in-Some-clause-found : goal.returns-in-Some-clause-found
returns-in-Some-clause-found g c = subst (λ o. AreSharing g.T.HasPeriod.period (period_of c.args.p) (items_in o) c.sharing.result.0 c.sharing.result.1.now) c.in-Some.ensures.value c.sharing.ensures.found

pub returns-in-Some-clause-few : goal.returns-in-Some-clause-few
returns-in-Some-clause-few g c = λ digits short. c.sharing.ensures.few digits (subst (λ o. length (items_in o) < 2 ^ digits) (sym c.in-Some.ensures.value) short)
