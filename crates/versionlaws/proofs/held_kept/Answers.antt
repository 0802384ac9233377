use Rattle.versionlaws.proofs.Committed.{held_kept}
use Rattle.versionlaws.proofs.held_kept.Goals as goal

pub returns : goal.returns
returns c = held_kept
