use Rattle.raft.proofs.state.Core.on_reply_yes.Given as goal

abbrev pub ghost-note : goal.ghost-note
ghost-note g a = g.stored
