use Rattle.view.proofs.Refusing.{match_ok}
use Rattle.view.proofs.refused.appends_before_others.Goals as goal

pub returns : goal.returns
returns c = match_ok c.append.result _ _ c.append.ensures.pending
