use Rattle.std.proofs.Common.{rules}
use Rattle.period.proofs.period.Period.contains_day.Goals as goal

pub returns-then-le : goal.returns-then-le
returns-then-le c = search rules
