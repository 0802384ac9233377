use Rattle.versionlaws.proofs.Existing.{sealed_has_one}
use Rattle.versionlaws.proofs.sealed_answer.Goals as goal

pub returns : goal.returns
returns c = sealed_has_one c.however_sealed.ensures c.one_answer.ensures c.some_answer.ensures
