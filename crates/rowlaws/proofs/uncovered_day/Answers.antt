use Rattle.rowlaws.proofs.Least.{uncovered_is}
use Rattle.rowlaws.proofs.uncovered_day.Goals as goal

pub returns : goal.returns
returns c = uncovered_is
