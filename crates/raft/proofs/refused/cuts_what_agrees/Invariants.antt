use Rattle.raft.proofs.refused.cuts_what_agrees.Given as goal

abbrev pub ghost-accept : goal.ghost-accept
ghost-accept g a = g.stored
