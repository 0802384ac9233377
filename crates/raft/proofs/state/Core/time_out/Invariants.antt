use Rattle.raft.proofs.state.Core.time_out.Given as goal

abbrev pub ghost-stand_up : goal.ghost-stand_up
ghost-stand_up g a = g.stored
