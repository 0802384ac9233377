use Rattle.versionlaws.proofs.Existing.{answer_in_each}
use Rattle.versionlaws.proofs.some_answer.Goals as goal

pub returns : goal.returns
returns c = answer_in_each c.versions_answer.ensures
