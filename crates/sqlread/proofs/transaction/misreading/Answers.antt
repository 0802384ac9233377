use Rattle.std.proofs.Common.{rules}
use Rattle.sqlread.proofs.transaction.misreading.Goals as goal

pub returns-in-Err-NoMemory : goal.returns-in-Err-NoMemory
returns-in-Err-NoMemory c = search rules
