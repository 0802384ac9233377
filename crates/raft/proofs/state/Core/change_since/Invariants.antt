use Rattle.raft.proofs.state.Core.change_since.Given as goal

abbrev pub ghost-unsaved : goal.ghost-unsaved
ghost-unsaved g a = g.stored
