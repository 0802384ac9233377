use Rattle.versionlaws.proofs.Unanswered.{unanswered}
use Rattle.versionlaws.proofs.no_answer.Goals as goal

pub returns : goal.returns
returns c = unanswered
