use Rattle.std.proofs.Common.{rules}
use Rattle.model.proofs.request.RequestNumber.new.Goals as goal

pub returns-clause-some : goal.returns-clause-some
returns-clause-some c = search rules
