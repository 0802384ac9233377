use Rattle.raft.proofs.state.Core.open.Given as goal

abbrev pub ghost-next_stamp : goal.ghost-next_stamp
ghost-next_stamp g a = g.stored

abbrev pub ghost-is_log_full : goal.ghost-is_log_full
ghost-is_log_full g a = g.stored

abbrev pub ghost-extend : goal.ghost-extend
ghost-extend g a = g.stored
