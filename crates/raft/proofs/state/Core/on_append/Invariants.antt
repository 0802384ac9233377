use Rattle.raft.proofs.state.Core.on_append.Given as goal

abbrev pub ghost-stands : goal.ghost-stands
ghost-stands g a = g.stored

abbrev pub ghost-follow : goal.ghost-follow
ghost-follow g a = g.stored

abbrev pub ghost-agreed : goal.ghost-agreed
ghost-agreed g a = g.stored

abbrev pub ghost-take_entries : goal.ghost-take_entries
ghost-take_entries g a = g.stored

abbrev pub ghost-cuts_too_far : goal.ghost-cuts_too_far
ghost-cuts_too_far g a = g.stored
