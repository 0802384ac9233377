use Rattle.std.proofs.Common.{◌≡◌, ◌∙◌, ◌<◌, ◌++◌, ◌∷◌, [], length, sym, ap, rules, arith}
use Rattle.flight.specs.Telling.{outcome_of}
use Rattle.flight.proofs.Adding.{seen_more}
use Rattle.flight.proofs.outcome.Outcomes.of.Goals as goal

pub loop-one-preserved : goal.loop-one-preserved
loop-one-preserved c =
    let within : c.loop-one.one-index < length c.args.told.now = omega arith in
    let more = seen_more c.args.told.now c.loop-one.one-index c.one-item.result within c.one-item.is outcome_of in
    let items : c.push.new.self.items ≡ c.loop-one.outcomes.items ++ outcome_of c.one-item.result ∷ [] = search rules in
    items ∙ ap (λ l. l ++ outcome_of c.one-item.result ∷ []) c.loop-one.invariant ∙ sym more
