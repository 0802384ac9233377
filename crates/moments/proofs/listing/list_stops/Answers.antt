use Rattle.std.proofs.Common.{rules, arith, ◌≡◌, ◌∙◌, ◌<◌, ℕ, ◌++◌, ap, take, length}
use Rattle.std.proofs.lemmas.List.{length-take-le}
use Rattle.flight.specs.Lives.{last_mark}
use Rattle.moments.specs.Moments.{stop_moments, end_moments}
use Rattle.moments.proofs.Adding.{one_more, from_zero, stops_more}
use Rattle.moments.proofs.listing.list_stops.Goals as goal

pub loop-place-preserved : goal.loop-place-preserved
loop-place-preserved c =
    let i = c.loop-place.place in
    let xs = c.args.lives.now in
    let x = c.index-lives-place.result in
    let within : i < length xs = search rules in
    let far : length (take i xs) ≡ i = length-take-le i xs (omega arith) in
    let adds = stops_more c.args.node 0 (take i xs) x ∙ ap (λ (k : ℕ). stop_moments c.args.node 0 (take i xs) ++ end_moments c.args.node k (last_mark x) x.ending) (from_zero (length (take i xs)) ∙ far) in
    one_more (stop_moments c.args.node 0) i xs x _ _ _ _ within c.index-lives-place.is adds c.loop-place.invariant (search rules)
