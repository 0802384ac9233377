use Rattle.versionlaws.proofs.Committed.{held_on}
use Rattle.versionlaws.proofs.held_on.Goals as goal

pub returns : goal.returns
returns c = held_on
