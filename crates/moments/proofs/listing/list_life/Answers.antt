use Rattle.std.proofs.Common.{rules, arith, ◌≡◌, ◌∙◌, ◌<◌, ℕ, List, [], ◌∷◌, ◌++◌, ap, take, get_or, length}
use Rattle.std.proofs.lemmas.List.{length-take-le}
use Rattle.moments.specs.declared.moment.Deed.TheVariants.{Takes}
use Rattle.moments.specs.Moments.{step_moments}
use Rattle.flight.specs.declared.life.Step.{Step}
use Rattle.moments.proofs.Adding.{one_more, from_zero, steps_more}
use Rattle.moments.proofs.listing.list_life.Goals as goal

pub loop-step-preserved : goal.loop-step-preserved
loop-step-preserved c =
    let i = c.loop-step.step in
    let xs = c.args.life.now.steps.items in
    let x = c.taken-item.result in
    let within : i < length xs = search rules in
    let far : length (take i xs) ≡ i = length-take-le i xs (omega arith) in
    let adds = steps_more c.args.node c.args.place 0 (take i xs) x ∙ ap (λ (k : ℕ). step_moments c.args.node c.args.place 0 (take i xs) ++ record { mark = x.mark; node = c.args.node; deed = Takes c.args.place k } ∷ []) (from_zero (length (take i xs)) ∙ far) in
    one_more (step_moments c.args.node c.args.place 0) i xs x _ _ _ _ within (c.taken-item.is ∙ ap (λ (ys : List Step). get_or ys i x) c.deref-taken-items.ensures.value) adds c.loop-step.invariant (search rules)
