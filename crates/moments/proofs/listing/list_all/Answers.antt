use Rattle.std.proofs.Common.{rules, arith, ◌≡◌, ◌∙◌, ◌<◌, ◌+◌, ℕ, [], ◌++◌, ap, take, length}
use Rattle.std.proofs.lemmas.List.{length-take-le}
use Rattle.moments.specs.Moments.{listed, node_moments}
use Rattle.moments.proofs.Adding.{one_more, listed_more}
use Rattle.moments.proofs.listing.list_all.Goals as goal

pub loop-place-preserved : goal.loop-place-preserved
loop-place-preserved c =
    let i = c.loop-place.place in
    let xs = c.args.lives.now in
    let x = c.index-lives-place.result in
    let within : i < length xs = search rules in
    let far : length (take i xs) ≡ i = length-take-le i xs (omega arith) in
    let at : 1 + length (take i xs) ≡ i + 1 = omega arith in
    let adds = listed_more c.args.answers.now 1 (take i xs) x ∙ ap (λ (k : ℕ). listed c.args.answers.now 1 (take i xs) ++ node_moments c.args.answers.now k x.items) at in
    one_more (listed c.args.answers.now 1) i xs x (node_moments c.args.answers.now (i + 1) x.items) [] _ _ within c.index-lives-place.is adds c.loop-place.invariant (search rules)
