use Rattle.sqlite.specs.Held.{state}
use Rattle.durable.proofs.Refusing.{left_whole}
use Rattle.durable.proofs.refused.commits_the_term_first.Goals as goal

pub returns : goal.returns
returns g c clean left may log = left_whole (state g.S.Store c.args.conn.now) c.args.change.now g.before left c.requires.1.1.1.1.1.1.0 c.requires.1.1.1.1.1.1.1.0 c.requires.1.1.1.1.1.1.1.1 (c.commit_change.ensures.torn clean left may) log
