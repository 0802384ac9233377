use Rattle.rowlaws.proofs.Differences.{untouched}
use Rattle.rowlaws.proofs.untouched.Goals as goal

pub returns : goal.returns
returns c = untouched
