use Rattle.versionlaws.proofs.Keyed.{few_versions}
use Rattle.versionlaws.proofs.few_versions.Goals as goal

pub returns : goal.returns
returns c = few_versions
