use Rattle.std.proofs.Common.{◌≡◌, ◌++◌, map, take}
use Rattle.moments.specs.Judged.{judged_of}
use Rattle.moments.proofs.judged.add_answers.Given as goal

abbrev pub invariant-loop-answer : goal.invariant-loop-answer
invariant-loop-answer l = l.judged.items ≡ l.fn.judged.items ++ map (judged_of l.node) (take l.answer-index l.answers)
