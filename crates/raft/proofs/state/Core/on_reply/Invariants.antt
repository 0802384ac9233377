use Rattle.raft.proofs.state.Core.on_reply.Given as goal

abbrev pub ghost-on_reply_yes : goal.ghost-on_reply_yes
ghost-on_reply_yes g a = g.stored

abbrev pub ghost-on_reply_no : goal.ghost-on_reply_no
ghost-on_reply_no g a = g.stored
