use Rattle.std.proofs.Common.{◌≡◌, ◌≤◌}
use Rattle.model.specs.Members.{count_members, is_in}
use Rattle.raft.proofs.leading.count_set.Given as goal

abbrev pub invariant-loop-index : goal.invariant-loop-index
invariant-loop-index l = record { few : l.count ≤ l.index; counted : l.count ≡ count_members l.index (is_in l.set) }
