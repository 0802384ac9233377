use Rattle.rowlaws.proofs.Touches.{touched_both}
use Rattle.rowlaws.proofs.touched_then.Goals as goal

pub returns : goal.returns
returns c = touched_both
