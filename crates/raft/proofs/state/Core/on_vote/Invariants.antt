use Rattle.raft.proofs.state.Core.on_vote.Given as goal

abbrev pub ghost-become_leader : goal.ghost-become_leader
ghost-become_leader g a = g.stored

abbrev pub ghost-open : goal.ghost-open
ghost-open g a = g.stored

abbrev pub ghost-count : goal.ghost-count
ghost-count g a = g.stored
