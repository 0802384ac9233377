use Rattle.versionlaws.proofs.Found.{versions_ends_are}
use Rattle.versionlaws.proofs.versions_ends.Goals as goal

pub returns : goal.returns
returns c = versions_ends_are
