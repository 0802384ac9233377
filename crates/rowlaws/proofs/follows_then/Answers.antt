use Rattle.rowlaws.proofs.Runs.{follows_then}
use Rattle.rowlaws.proofs.follows_then.Goals as goal

pub returns : goal.returns
returns c = follows_then
