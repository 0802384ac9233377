use Rattle.versionlaws.proofs.Keyed.{held_by_key}
use Rattle.versionlaws.proofs.held_by_key.Goals as goal

pub returns : goal.returns
returns c = held_by_key
