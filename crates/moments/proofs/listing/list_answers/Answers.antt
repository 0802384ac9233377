use Rattle.std.proofs.Common.{rules, arith, ◌≡◌, ◌∙◌, ◌<◌, ℕ, ◌++◌, ap, take, length}
use Rattle.std.proofs.lemmas.List.{length-take-le}
use Rattle.moments.specs.Moments.{answer_moments, answer_moment}
use Rattle.moments.proofs.Adding.{one_more, from_zero, answers_more}
use Rattle.moments.proofs.listing.list_answers.Goals as goal

pub loop-place-preserved : goal.loop-place-preserved
loop-place-preserved c =
    let i = c.loop-place.place in
    let xs = c.args.answers.now in
    let x = c.index-answers-place.result in
    let within : i < length xs = search rules in
    let far : length (take i xs) ≡ i = length-take-le i xs (omega arith) in
    let adds = answers_more c.args.node 0 (take i xs) x ∙ ap (λ (k : ℕ). answer_moments c.args.node 0 (take i xs) ++ answer_moment c.args.node k x) (from_zero (length (take i xs)) ∙ far) in
    one_more (answer_moments c.args.node 0) i xs x _ _ _ _ within c.index-answers-place.is adds c.loop-place.invariant (search rules)
