use Rattle.std.proofs.Common.{◌≡◌, take}
use Rattle.std.specs.List.{sum_by}
use Rattle.report.specs.Counts.{steps_of}
use Rattle.report.proofs.counts.steps_in.Given as goal

abbrev pub invariant-loop-life : goal.invariant-loop-life
invariant-loop-life l = l.count ≡ sum_by steps_of (take l.life-index l.lives)
