use Rattle.script.proofs.Recovering.{Surveyed}
use Rattle.script.proofs.play.Play.survey.Given as goal

abbrev pub invariant-loop-place : goal.invariant-loop-place
invariant-loop-place l = Surveyed l.initial.self l.self l.place l.first l.longest l.best
