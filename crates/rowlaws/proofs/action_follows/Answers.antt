use Rattle.rowlaws.proofs.Runs.{action_next}
use Rattle.rowlaws.proofs.action_follows.Goals as goal

pub returns : goal.returns
returns c = action_next
