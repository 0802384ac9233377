use Rattle.sqlread.proofs.Refusing.{between_ends}
use Rattle.sqlread.proofs.refused.between_lacks_its_last.Goals as goal

pub returns : goal.returns
returns g c = between_ends c.read_time.result c.args.from.source.now c.args.to.source.now g.last c.read_time.ensures c.requires
