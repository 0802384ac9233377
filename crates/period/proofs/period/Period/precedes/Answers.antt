use Rattle.std.proofs.Common.{rules}
use Rattle.period.proofs.period.Period.precedes.Goals as goal

pub returns : goal.returns
returns c = search rules
