use Rattle.view.proofs.Refusing.{if_ok, match_ok}
use Rattle.view.proofs.refused.learns_nothing.Goals as goal

pub returns : goal.returns
returns c = if_ok c.learn.result _ _ (match_ok c.learn.result _ _ c.learn.ensures.learnt) (λ u both. both.1)
