use Rattle.std.proofs.Common.{rules}
use Rattle.sqlchecks.proofs.column.same_name.Goals as goal

pub returns : goal.returns
returns c = search rules
