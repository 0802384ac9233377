use Rattle.rowlaws.proofs.Transacted.{lists_in_order}
use Rattle.rowlaws.proofs.rows_in_order.Goals as goal

pub returns : goal.returns
returns c = lists_in_order
