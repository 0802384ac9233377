use Rattle.answertext.proofs.Putting.{at_err}
use Rattle.answertext.specs.Appending.{begins-nothing}
use Rattle.answertext.proofs.answers.write_answer.Goals as goal

pub returns-in_err-text-clause-written : goal.returns-in_err-text-clause-written
returns-in_err-text-clause-written g c = at_err c.from_residual.result _ _ c.from_residual.ensures.0 (begins-nothing _ _)
