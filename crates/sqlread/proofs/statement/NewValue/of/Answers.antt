use Rattle.std.proofs.Common.{rules}
use Rattle.sqlread.proofs.statement.NewValue.of.Goals as goal

pub returns-in_err-clone-in-Literal-default : goal.returns-in_err-clone-in-Literal-default
returns-in_err-clone-in-Literal-default c = search rules
