use Rattle.versionlaws.proofs.Committed.{held_before}
use Rattle.versionlaws.proofs.held_before.Goals as goal

pub returns : goal.returns
returns c = held_before
