use Rattle.versionlaws.proofs.Kept.{commit_entry_holds}
use Rattle.versionlaws.proofs.commit_entry.Goals as goal

pub returns : goal.returns
returns c = commit_entry_holds c.logs_follow.ensures
