use Rattle.raft.proofs.refused.shorter_is_up_to_date.Given as goal

abbrev pub ghost-is_up_to_date : goal.ghost-is_up_to_date
ghost-is_up_to_date g a = g.stored
