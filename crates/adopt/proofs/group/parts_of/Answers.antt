use Rattle.std.proofs.Common.{◌∙◌, ap}
use Rattle.moments.specs.Judged.{judged_from}
use Rattle.adopt.proofs.group.parts_of.Goals as goal

pub returns-clause-answers : goal.returns-clause-answers
returns-clause-answers c = c.in_ok-judged.ensures ∙ ap (judged_from 1) (c.as_slice.ensures.value ∙ c.in_ok-records.ensures.answers)
