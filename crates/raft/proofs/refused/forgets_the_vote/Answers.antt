use Rattle.raft.proofs.Refusing.{if_ok, vote_stored}
use Rattle.raft.proofs.refused.forgets_the_vote.Goals as goal

pub returns : goal.returns
returns g c = if_ok c.change_since.result _ _ c.change_since.ensures.news (λ change news. vote_stored c.args.core.now g.stored c.args.before change news c.requires.1)
