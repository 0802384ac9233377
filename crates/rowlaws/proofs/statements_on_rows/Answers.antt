use Rattle.rowlaws.proofs.Runs.{statements_same}
use Rattle.rowlaws.proofs.statements_on_rows.Goals as goal

pub returns : goal.returns
returns c = statements_same
