use Rattle.std.proofs.Common.{◌∙◌, sym}
use Rattle.moments.proofs.Texts.{same_text}
use Rattle.moments.proofs.laws.one_text.Goals as goal

pub returns : goal.returns
returns c = λ tables table m k answer a b h g. h.3 ∙ same_text h.0 g.0 (h.1 ∙ sym g.1) (h.2 ∙ sym g.2) ∙ sym g.3
