use Rattle.std.proofs.Common.{◌≡◌, ◌∙◌, ℕ, Some, ap, slice_get}
use Rattle.view.proofs.Appending.{next_follows, remembered}
use Rattle.view.proofs.publisher.Publisher.remember.Goals as goal

pub extend-requires-clause-follows : goal.extend-requires-clause-follows
extend-requires-clause-follows c =
    let old = c.args.self.now in
    let here : slice_get old.items.items old.history.front.count ≡ Some c.args.item.now = ap (λ (k : ℕ). slice_get old.items.items k) (c.if-self-len.true ∙ c.len.ensures) ∙ c.requires in
    next_follows old.history.front.count old.items.items old.history.front.seen.log c.args.item.now old.rising old.grown.0 here

pub invariant_of-self-clause-grown : goal.invariant_of-self-clause-grown
invariant_of-self-clause-grown c =
    let old = c.args.self.now in
    let new = c.extend.new.self.front in
    let level : old.history.front.count ≡ old.places.len = c.if-self-len.true ∙ c.len.ensures in
    let here : slice_get old.items.items old.history.front.count ≡ Some c.args.item.now = ap (λ (k : ℕ). slice_get old.items.items k) level ∙ c.requires in
    remembered c.extend.result old.places.len old.items.items old.history.front.count new.count old.history.front.seen.log new.seen.log c.args.item.now old.grown level here old.history.front.counted new.counted c.extend.ensures.log
