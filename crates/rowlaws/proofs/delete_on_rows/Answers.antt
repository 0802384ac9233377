use Rattle.rowlaws.proofs.Deleted.{lists_deleted}
use Rattle.rowlaws.proofs.delete_on_rows.Goals as goal

pub returns : goal.returns
returns c = λ passes p t old rows le l. lists_deleted passes p t old le rows l
