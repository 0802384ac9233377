use Rattle.rowlaws.proofs.Runs.{statement_same}
use Rattle.rowlaws.proofs.statement_on_rows.Goals as goal

pub returns : goal.returns
returns c = statement_same
