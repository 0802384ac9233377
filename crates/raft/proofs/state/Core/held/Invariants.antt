use Rattle.std.proofs.Common.{◌≡◌, ◌+◌, ◌≤◌, length, List}
use Rattle.std.specs.Prelude.{vec_len}
use Rattle.model.specs.declared.entry.Entry.{Entry}
use Rattle.model.specs.Steps.{greatest, is_matched}
use Rattle.raft.specs.View.{log_of, node_of, Reaches}
use Rattle.raft.proofs.state.Core.held.Given as goal

abbrev pub invariant-loop-index : goal.invariant-loop-index
invariant-loop-index l = record {
  within : l.index ≤ l.self.log.elsewhere + vec_len l.self.log.tail;
  most : (stored : List Entry) → Reaches l.self stored → greatest (is_matched l.self.members l.self.me (node_of l.self stored)) (length (log_of l.self stored)) ≡ greatest (is_matched l.self.members l.self.me (node_of l.self stored)) l.index;
}

abbrev pub decreases-loop-index : goal.decreases-loop-index
decreases-loop-index l = l.index
