use Rattle.std.proofs.Common.{inl, inr}
use Rattle.apply.proofs.Refusing.{if_err}
use Rattle.apply.proofs.refused.refused_leaves_its_rows.Goals as goal

pub returns : goal.returns
returns g c = if_err c.transact.result _ _ c.transact.ensures.back (λ refusal back other. elim back [ inl none ↦ absurd (other none) | inr stay ↦ stay g.state c.requires ])
