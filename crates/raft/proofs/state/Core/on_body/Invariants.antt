use Rattle.raft.proofs.state.Core.on_body.Given as goal

abbrev pub ghost-on_request_vote : goal.ghost-on_request_vote
ghost-on_request_vote g a = g.stored

abbrev pub ghost-on_vote : goal.ghost-on_vote
ghost-on_vote g a = g.stored

abbrev pub ghost-on_append : goal.ghost-on_append
ghost-on_append g a = g.stored

abbrev pub ghost-on_reply : goal.ghost-on_reply
ghost-on_reply g a = g.stored

abbrev pub ghost-on_seek : goal.ghost-on_seek
ghost-on_seek g a = g.stored

abbrev pub ghost-on_stored : goal.ghost-on_stored
ghost-on_stored g a = g.stored
