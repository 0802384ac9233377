use Rattle.std.proofs.Common.{◌≡◌, ◌∙◌, Some, None, inl, inr, sym}
use Rattle.apply.proofs.Refusing.{if_err}
use Rattle.apply.proofs.refused.refuses_the_closed.Goals as goal

pub returns : goal.returns
returns g c = if_err c.ask.result _ _ c.ask.ensures.err (λ refusal un. elim un [ inl none ↦ none | inr late ↦ (let e : None ≡ Some g.asked = sym late.0 ∙ c.requires in cc) ])
