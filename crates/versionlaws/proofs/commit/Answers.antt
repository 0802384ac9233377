use Rattle.versionlaws.proofs.Committed.{commit_holds}
use Rattle.versionlaws.proofs.commit.Goals as goal

pub returns : goal.returns
returns c = commit_holds
