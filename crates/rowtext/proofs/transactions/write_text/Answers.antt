use Rattle.answertext.proofs.Putting.{at_err}
use Rattle.answertext.specs.Appending.{begins-nothing}
use Rattle.rowtext.proofs.transactions.write_text.Goals as goal

pub returns-in_err-text-clause-text : goal.returns-in_err-text-clause-text
returns-in_err-text-clause-text g c = at_err c.from_residual.result _ _ c.from_residual.ensures.0 (begins-nothing _ _)
