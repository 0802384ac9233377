use Rattle.versionlaws.proofs.Kept.{lasts_in_log}
use Rattle.versionlaws.proofs.lasts.Goals as goal

pub returns : goal.returns
returns c = lasts_in_log c.logs_follow.ensures
