use Rattle.node.specs.Member.{IsSameSeat}
use Rattle.playback.proofs.making.append_all.Given as goal

abbrev pub invariant-loop-batch : goal.invariant-loop-batch
invariant-loop-batch g l = IsSameSeat l.initial.node l.node
