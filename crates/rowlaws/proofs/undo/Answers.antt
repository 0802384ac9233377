use Rattle.rowlaws.proofs.Touches.{undone}
use Rattle.rowlaws.proofs.undo.Goals as goal

pub returns : goal.returns
returns c = undone
