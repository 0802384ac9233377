use Rattle.versionlaws.proofs.Existing.{closed_has_one}
use Rattle.versionlaws.proofs.closed_answer.Goals as goal

pub returns : goal.returns
returns c = closed_has_one c.however_late.ensures c.one_answer.ensures c.some_answer.ensures
