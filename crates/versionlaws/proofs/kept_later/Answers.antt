use Rattle.versionlaws.proofs.Kept.{kept_later}
use Rattle.versionlaws.proofs.kept_later.Goals as goal

pub returns : goal.returns
returns c = kept_later
