use Rattle.raft.proofs.state.Core.on_input.Given as goal

abbrev pub ghost-time_out : goal.ghost-time_out
ghost-time_out g a = g.stored

abbrev pub ghost-append_own : goal.ghost-append_own
ghost-append_own g a = g.stored

abbrev pub ghost-ask_floor : goal.ghost-ask_floor
ghost-ask_floor g a = g.stored
