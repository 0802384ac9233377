use Rattle.raft.proofs.state.Core.on_hand.Given as goal

abbrev pub ghost-on_input : goal.ghost-on_input
ghost-on_input g a = g.stored
