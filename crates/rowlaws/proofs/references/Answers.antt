use Rattle.rowlaws.proofs.Referring.{hold_is}
use Rattle.rowlaws.proofs.references.Goals as goal

pub returns : goal.returns
returns c = hold_is
