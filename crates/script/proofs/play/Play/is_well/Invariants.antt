use Rattle.script.proofs.Recovering.{InStep}
use Rattle.script.proofs.play.Play.is_well.Given as goal

abbrev pub invariant-loop-place : goal.invariant-loop-place
invariant-loop-place l = InStep l.fn.self l.self l.leader l.place l.are_in_step
