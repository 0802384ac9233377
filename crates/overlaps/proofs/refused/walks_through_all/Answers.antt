use Rattle.std.proofs.Common.{arith}
use Rattle.overlaps.proofs.refused.walks_through_all.Goals as goal

pub returns : goal.returns
returns g c = let few = c.find.ensures.few 15 (omega arith) in omega arith
