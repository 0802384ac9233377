use Rattle.std.proofs.lemmas.Bool.{le-leb}
use Rattle.raft.proofs.LogFacts.{joint}
use Rattle.raft.proofs.state.Core.stand_up.Goals as goal

pub invariant_of-self-clause-vote_within : goal.invariant_of-self-clause-vote_within
invariant_of-self-clause-vote_within g c =
    let me = c.args.self.now.is_member in
    joint _ _ (le-leb 1 c.args.self.now.me me.0) (le-leb c.args.self.now.me c.args.self.now.members me.1)
