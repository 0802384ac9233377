use Rattle.std.proofs.Common.{rules, arith, ◌≡◌, ◌∙◌, ◌<◌, ℕ, ◌++◌, ap, take, length}
use Rattle.std.proofs.lemmas.List.{length-take-le}
use Rattle.moments.specs.Moments.{deed_moments, life_moments}
use Rattle.moments.proofs.Adding.{one_more, from_zero, deeds_more}
use Rattle.moments.proofs.listing.list_deeds.Goals as goal

pub loop-place-preserved : goal.loop-place-preserved
loop-place-preserved c =
    let i = c.loop-place.place in
    let xs = c.args.lives.now in
    let x = c.index-lives-place.result in
    let within : i < length xs = search rules in
    let far : length (take i xs) ≡ i = length-take-le i xs (omega arith) in
    let adds = deeds_more c.args.node 0 (take i xs) x ∙ ap (λ (k : ℕ). deed_moments c.args.node 0 (take i xs) ++ life_moments c.args.node k x) (from_zero (length (take i xs)) ∙ far) in
    one_more (deed_moments c.args.node 0) i xs x _ _ _ _ within c.index-lives-place.is adds c.loop-place.invariant (search rules)
