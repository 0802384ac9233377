use Rattle.believedsql.proofs.SchemasSame.{says_now, says_before}
use Rattle.believedsql.proofs.schemas.Goals as goal

pub returns : goal.returns
returns c = λ text r. (says_now c.forms_told.ensures text r, says_before c.forms_told.ensures text r)
