use Rattle.raft.proofs.state.Core.extend.Given as goal

abbrev pub ghost-push : goal.ghost-push
ghost-push g a = g.stored
