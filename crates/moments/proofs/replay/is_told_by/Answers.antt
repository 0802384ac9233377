use Rattle.std.proofs.Common.{rules}
use Rattle.moments.proofs.Telling.{told_answer, told_only}
use Rattle.moments.proofs.replay.is_told_by.Goals as goal

pub returns-in_ok-wanted-in-Answered : goal.returns-in_ok-wanted-in-Answered
returns-in_ok-wanted-in-Answered c = λ t table has. (
  (λ same. told_answer t table _ c.in-Answered.answer c.args.output.now c.args.text.now c.in-Answered.is (search rules) has),
  (λ told. let same = told_only t table _ c.in-Answered.answer c.args.output.now c.args.text.now c.in-Answered.is has told in search rules),
)
