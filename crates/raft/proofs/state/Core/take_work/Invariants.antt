use Rattle.raft.proofs.state.Core.take_work.Given as goal

abbrev pub ghost-on_work : goal.ghost-on_work
ghost-on_work g a = g.stored

abbrev pub ghost-change_since : goal.ghost-change_since
ghost-change_since g a = g.stored
