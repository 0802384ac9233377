use Rattle.std.proofs.Common.{rules}
use Rattle.asof.proofs.found.compare.Goals as goal

pub returns : goal.returns
returns c = search rules
