use Rattle.std.proofs.Common.{rules}
use Rattle.period.proofs.instant.at_time.Goals as goal

pub returns-then-time-ge24-clause-some : goal.returns-then-time-ge24-clause-some
returns-then-time-ge24-clause-some c = search rules

pub returns-then-time-ge24-clause-none : goal.returns-then-time-ge24-clause-none
returns-then-time-ge24-clause-none c = search rules

pub returns-clause-some : goal.returns-clause-some
returns-clause-some c = search rules
