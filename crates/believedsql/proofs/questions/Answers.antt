use Rattle.believedsql.proofs.QuestionsSame.{question_now, question_before}
use Rattle.believedsql.proofs.questions.Goals as goal

pub returns : goal.returns
returns c = λ tables text r. (λ h. (c.questions.ensures tables text r).0 (question_before tables text r h), λ e. question_now tables text r ((c.questions.ensures tables text r).1 e))
