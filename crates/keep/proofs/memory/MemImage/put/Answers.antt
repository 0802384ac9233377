use Rattle.std.proofs.Common.{rules}
use Rattle.keep.proofs.memory.MemImage.put.Goals as goal

pub returns-clause-ok : goal.returns-clause-ok
returns-clause-ok c = search rules
