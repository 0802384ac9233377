use Rattle.rowlaws.proofs.Transacted.{all_fine}
use Rattle.rowlaws.proofs.fine_logs.Goals as goal

pub returns : goal.returns
returns c = all_fine
