use Rattle.std.proofs.Common.{◌≡◌, map}
use Rattle.model.specs.Members.{others}
use Rattle.raft.proofs.state.Core.tell_all.Given as goal

abbrev pub invariant-loop-index : goal.invariant-loop-index
invariant-loop-index l = l.messages.items ≡ map (λ to. record { sender = l.self.me; addressee = to; term = l.self.term; body = l.body }) (others l.index l.self.me)
