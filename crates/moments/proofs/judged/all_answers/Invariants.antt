use Rattle.std.proofs.Common.{◌≡◌, take}
use Rattle.moments.specs.Judged.{judged_from}
use Rattle.moments.proofs.judged.all_answers.Given as goal

abbrev pub invariant-loop-at : goal.invariant-loop-at
invariant-loop-at l = l.judged.items ≡ judged_from 1 (take l.at l.answers)
