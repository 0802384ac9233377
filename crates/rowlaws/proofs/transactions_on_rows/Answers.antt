use Rattle.rowlaws.proofs.Transacted.{transaction_same}
use Rattle.rowlaws.proofs.transactions_on_rows.Goals as goal

pub returns : goal.returns
returns c = transaction_same
