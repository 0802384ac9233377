use Rattle.rowlaws.proofs.Transacted.{follows_after}
use Rattle.rowlaws.proofs.logs_follow.Goals as goal

pub returns : goal.returns
returns c = follows_after
