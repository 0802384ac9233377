use Rattle.std.proofs.Common.{rules}
use Rattle.keep.proofs.memory.MemKeeperKeeper.open.Goals as goal

pub returns-clause-told : goal.returns-clause-told
returns-clause-told c = search rules
