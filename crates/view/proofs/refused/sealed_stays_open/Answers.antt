use Rattle.view.proofs.Refusing.{sealed_is_closed}
use Rattle.view.proofs.refused.sealed_stays_open.Goals as goal

pub returns : goal.returns
returns g c = sealed_is_closed c.closed.result c.args.replay.now.front.seen.log g.sealed c.closed.ensures c.requires.1
