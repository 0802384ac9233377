use Rattle.raft.proofs.state.Core.take_entries.Given as goal

abbrev pub ghost-accept : goal.ghost-accept
ghost-accept g a = g.stored
