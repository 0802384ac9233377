use Rattle.std.proofs.Common.{◌≡◌, drop}
use Rattle.raft.specs.Follows.{go_on_from}
use Rattle.raft.proofs.logs.go_on.Given as goal

abbrev pub invariant-loop-entry : goal.invariant-loop-entry
invariant-loop-entry l = go_on_from l.fn.term l.fn.least l.bound l.entries ≡ go_on_from l.last_term l.least_stamp l.bound (drop l.entry-index l.entries)
