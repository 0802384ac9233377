use Rattle.rowlaws.proofs.Touches.{touched_by}
use Rattle.rowlaws.proofs.touched_by.Goals as goal

pub returns : goal.returns
returns c = touched_by
