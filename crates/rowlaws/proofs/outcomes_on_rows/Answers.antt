use Rattle.rowlaws.proofs.Transacted.{same_outcome}
use Rattle.rowlaws.proofs.outcomes_on_rows.Goals as goal

pub returns : goal.returns
returns c = same_outcome
