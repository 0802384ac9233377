use Rattle.rowlaws.proofs.Listed.{same_listed}
use Rattle.rowlaws.proofs.same_rows.Goals as goal

pub returns : goal.returns
returns c = same_listed
