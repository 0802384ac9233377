use Rattle.std.proofs.Common.{◌≡◌, ◌∙◌, Some, None, length, slice_get, refl, sym, ap}
use Rattle.std.proofs.lemmas.Option.{slice_get_read}
use Rattle.store.specs.HeldAt.{BeginsAt}
use Rattle.store.proofs.Helds.{some_so, this_one}
use Rattle.store.proofs.beginnings.beginning_at.Goals as goal

pub returns-in-Some-clause-some : goal.returns-in-Some-clause-some
returns-in-Some-clause-some c =
    let held = c.args.held.now in
    let there : slice_get held c.args.at ≡ Some (Some c.in-Some.log) = slice_get_read held (length held) c.args.at c.index-held-at.result refl c.if-at-held.false c.index-held-at.is ∙ ap (λ o. Some o) c.in-Some.is in
    some_so _ _ (λ first. BeginsAt held c.args.stored.now first.now c.args.at) c.beginning.result c.beginning.ensures.some (λ first b. (c.in-Some.log, there, b))

pub returns-in-Some-clause-none : goal.returns-in-Some-clause-none
returns-in-Some-clause-none c = λ none first b.
    let held = c.args.held.now in
    let there : slice_get held c.args.at ≡ Some (Some c.in-Some.log) = slice_get_read held (length held) c.args.at c.index-held-at.result refl c.if-at-held.false c.index-held-at.is ∙ ap (λ o. Some o) c.in-Some.is in
    this_one held c.args.stored.now first c.args.at c.in-Some.log there (c.beginning.ensures.none none first) b

pub returns-in-None-clause-none : goal.returns-in-None-clause-none
returns-in-None-clause-none c = λ none first b.
    let held = c.args.held.now in
    let there : slice_get held c.args.at ≡ Some None = slice_get_read held (length held) c.args.at c.index-held-at.result refl c.if-at-held.false c.index-held-at.is ∙ ap (λ o. Some o) c.in-None.is in
    absurd (cc (sym there ∙ b.1))
