use Rattle.believed.proofs.AskedSame.{asking}
use Rattle.believed.proofs.questions.Goals as goal

pub returns : goal.returns
returns c = λ tables. asking c.forms_told.ensures.query tables
