use Rattle.rowlaws.proofs.Transacted.{listed_after}
use Rattle.rowlaws.proofs.logs_on_rows.Goals as goal

pub returns : goal.returns
returns c = listed_after
