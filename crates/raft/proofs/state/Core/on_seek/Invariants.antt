use Rattle.raft.proofs.state.Core.on_seek.Given as goal

abbrev pub ghost-follow : goal.ghost-follow
ghost-follow g a = g.stored
