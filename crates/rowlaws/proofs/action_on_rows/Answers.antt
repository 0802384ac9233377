use Rattle.rowlaws.proofs.Runs.{action_same}
use Rattle.rowlaws.proofs.action_on_rows.Goals as goal

pub returns : goal.returns
returns c = action_same
