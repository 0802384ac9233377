use Rattle.raft.proofs.state.Core.on_work.Given as goal

abbrev pub ghost-on_hand : goal.ghost-on_hand
ghost-on_hand g a = g.stored

abbrev pub ghost-receive : goal.ghost-receive
ghost-receive g a = g.stored
