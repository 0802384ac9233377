use Rattle.std.proofs.Common.{◌≡◌, ◌∙◌, true, false, sym}
use Rattle.current.proofs.Refusing.{never_ok}
use Rattle.current.proofs.refused.inserts_a_clash.Goals as goal

pub returns : goal.returns
returns c = never_ok c.insert.result _ c.insert.ensures.ok (λ u ok. let e : false ≡ true = sym ok.0 ∙ c.requires in cc)
