use Rattle.std.proofs.Common.{rules}
use Rattle.sqlread.proofs.statement.set_at.Goals as goal

pub returns-in_err-clone-in-None : goal.returns-in_err-clone-in-None
returns-in_err-clone-in-None c = search rules
