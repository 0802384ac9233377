use Rattle.rowlaws.proofs.Orphaned.{periods_in_order}
use Rattle.rowlaws.proofs.periods_in_order.Goals as goal

pub returns : goal.returns
returns c = periods_in_order
