use Rattle.std.proofs.Common.{◌≡◌, ◌∙◌, ◌-◌, length, ap, arith}
use Rattle.std.proofs.lemmas.List.Edits.{length-between}
use Rattle.model.specs.Periods.{period_of}
use Rattle.overlaps.proofs.Places.{sharing_in_order, sharing_at}
use Rattle.overlaps.proofs.counted.Counted.sharing.Goals as goal

pub range-requires-clause-in_order : goal.range-requires-clause-in_order
range-requires-clause-in_order g c =
    (sharing_in_order g.T.HasPeriod.period g.met.T.HasPeriod.some_day (period_of c.args.p) c.args.p.ordered c.args.self.now c.sharing_places-start.result.0 c.sharing_places-start.result.1 c.requires c.sharing_places-start.ensures.start c.sharing_places-start.ensures.end).0

pub range-requires-clause-within : goal.range-requires-clause-within
range-requires-clause-within g c =
    (sharing_in_order g.T.HasPeriod.period g.met.T.HasPeriod.some_day (period_of c.args.p) c.args.p.ordered c.args.self.now c.sharing_places-start.result.0 c.sharing_places-start.result.1 c.requires c.sharing_places-start.ensures.start c.sharing_places-start.ensures.end).1

pub returns-clause-found : goal.returns-clause-found
returns-clause-found g c =
    sharing_at g.T.HasPeriod.period g.met.T.HasPeriod.some_day (period_of c.args.p) c.args.p.ordered c.args.self.now c.sharing_places-start.result.0 c.sharing_places-start.result.1 c.range.result.now c.requires c.sharing_places-start.ensures.start c.sharing_places-start.ensures.end c.range.ensures.items

pub returns-clause-few : goal.returns-clause-few
returns-clause-few g c = λ digits short.
    let order = sharing_in_order g.T.HasPeriod.period g.met.T.HasPeriod.some_day (period_of c.args.p) c.args.p.ordered c.args.self.now c.sharing_places-start.result.0 c.sharing_places-start.result.1 c.requires c.sharing_places-start.ensures.start c.sharing_places-start.ensures.end in
    let within = order.1 in
    let few = c.sharing_places-start.ensures.few digits short in
    let long : length c.range.result.now ≡ c.sharing_places-start.result.1 - c.sharing_places-start.result.0 = ap length c.range.ensures.items ∙ length-between c.args.self.now c.sharing_places-start.result.0 c.sharing_places-start.result.1 within in
    let counted = c.range.ensures.counted in
    omega arith
