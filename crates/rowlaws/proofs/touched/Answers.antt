use Rattle.rowlaws.proofs.Differences.{touched}
use Rattle.rowlaws.proofs.touched.Goals as goal

pub returns : goal.returns
returns c = touched
