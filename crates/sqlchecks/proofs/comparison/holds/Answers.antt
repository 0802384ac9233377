use Rattle.std.proofs.Common.{rules}
use Rattle.sqlchecks.proofs.comparison.holds.Goals as goal

pub returns-in-Equal : goal.returns-in-Equal
returns-in-Equal c = search rules

pub returns-in-NotEqual : goal.returns-in-NotEqual
returns-in-NotEqual c = search rules

pub returns-in-Less : goal.returns-in-Less
returns-in-Less c = search rules

pub returns-in-LessEqual : goal.returns-in-LessEqual
returns-in-LessEqual c = search rules

pub returns-in-Greater : goal.returns-in-Greater
returns-in-Greater c = search rules

pub returns-in-GreaterEqual : goal.returns-in-GreaterEqual
returns-in-GreaterEqual c = search rules
