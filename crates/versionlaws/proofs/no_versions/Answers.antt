use Rattle.versionlaws.proofs.Kept.{no_versions_hold}
use Rattle.versionlaws.proofs.no_versions.Goals as goal

pub returns : goal.returns
returns c = no_versions_hold
