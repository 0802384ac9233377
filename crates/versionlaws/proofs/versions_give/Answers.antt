use Rattle.versionlaws.proofs.Answered.{versions_give_answer}
use Rattle.versionlaws.proofs.versions_give.Goals as goal

pub returns : goal.returns
returns c = versions_give_answer
