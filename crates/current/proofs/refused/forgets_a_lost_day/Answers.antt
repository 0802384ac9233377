use Rattle.current.proofs.Refusing.{if_ok, span_told}
use Rattle.current.proofs.refused.forgets_a_lost_day.Goals as goal

pub returns-clause-keys : goal.returns-clause-keys
returns-clause-keys g c = if_ok c.lost_with.result _ _ c.lost_with.ensures.each (λ lost told. (told g.of.0 g.of.1 c.requires.0 c.requires.1).0)

pub returns-clause-span : goal.returns-clause-span
returns-clause-span g c = if_ok c.lost_with.result _ _ c.lost_with.ensures.each (λ lost told. span_told lost.span g.of.1 (told g.of.0 g.of.1 c.requires.0 c.requires.1).1)
