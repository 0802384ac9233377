use Rattle.raft.proofs.state.Core.on_request_vote.Given as goal

abbrev pub ghost-grants : goal.ghost-grants
ghost-grants g a = g.stored
