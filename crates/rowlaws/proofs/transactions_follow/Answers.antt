use Rattle.rowlaws.proofs.Transacted.{follows_transacted}
use Rattle.rowlaws.proofs.transactions_follow.Goals as goal

pub returns : goal.returns
returns c = follows_transacted
