use Rattle.versionlaws.proofs.Answered.{answer_in_log}
use Rattle.versionlaws.proofs.versions_answer.Goals as goal

pub returns : goal.returns
returns c = answer_in_log c.holds.ensures c.keeps.ensures
