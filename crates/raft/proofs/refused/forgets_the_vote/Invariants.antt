use Rattle.raft.proofs.refused.forgets_the_vote.Given as goal

abbrev pub ghost-change_since : goal.ghost-change_since
ghost-change_since g a = g.stored
