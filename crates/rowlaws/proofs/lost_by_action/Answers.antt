use Rattle.rowlaws.proofs.Losing.{lost_by_action}
use Rattle.rowlaws.proofs.lost_by_action.Goals as goal

pub returns : goal.returns
returns c = lost_by_action
