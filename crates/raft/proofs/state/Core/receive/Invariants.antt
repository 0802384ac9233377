use Rattle.raft.proofs.state.Core.receive.Given as goal

abbrev pub ghost-hear : goal.ghost-hear
ghost-hear g a = g.stored

abbrev pub ghost-on_body : goal.ghost-on_body
ghost-on_body g a = g.stored

abbrev pub ghost-forget : goal.ghost-forget
ghost-forget g a = g.stored
