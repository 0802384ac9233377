use Rattle.rowlaws.proofs.Updated.{lists_updated}
use Rattle.rowlaws.proofs.update_on_rows.Goals as goal

pub returns : goal.returns
returns c = λ passes p set t old rows le l. lists_updated passes p set t old le rows l
