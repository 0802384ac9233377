use Rattle.raft.proofs.short_log.ShortLog.accept.Given as goal

abbrev pub ghost-go_on_with : goal.ghost-go_on_with
ghost-go_on_with g a = g.stored
