use Rattle.raft.proofs.state.Core.grants.Given as goal

abbrev pub ghost-is_up_to_date : goal.ghost-is_up_to_date
ghost-is_up_to_date g a = g.stored
