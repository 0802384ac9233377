use Rattle.std.proofs.Common.{rules, arith, ◌≡◌, ◌∙◌, ◌<◌, ℕ, ◌++◌, ap, take, length}
use Rattle.std.proofs.lemmas.List.{length-take-le}
use Rattle.moments.specs.Moments.{stray_moments, stray_moment}
use Rattle.moments.proofs.Adding.{one_more, from_zero, strays_more}
use Rattle.moments.proofs.listing.list_strays.Goals as goal

pub loop-place-preserved : goal.loop-place-preserved
loop-place-preserved c =
    let i = c.loop-place.place in
    let xs = c.args.answers.now in
    let x = c.index-answers-place.result in
    let within : i < length xs = search rules in
    let far : length (take i xs) ≡ i = length-take-le i xs (omega arith) in
    let adds = strays_more c.args.members 0 (take i xs) x ∙ ap (λ (k : ℕ). stray_moments c.args.members 0 (take i xs) ++ stray_moment c.args.members k x) (from_zero (length (take i xs)) ∙ far) in
    one_more (stray_moments c.args.members 0) i xs x _ _ _ _ within c.index-answers-place.is adds c.loop-place.invariant (search rules)
