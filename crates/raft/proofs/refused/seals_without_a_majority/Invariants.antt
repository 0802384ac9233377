use Rattle.raft.proofs.refused.seals_without_a_majority.Given as goal

abbrev pub ghost-on_stored : goal.ghost-on_stored
ghost-on_stored g a = g.stored
