use Rattle.sqlread.proofs.Refusing.{from_to_ends}
use Rattle.sqlread.proofs.refused.from_to_has_its_end.Goals as goal

pub returns : goal.returns
returns g c = from_to_ends c.read_time.result c.args.from.source.now c.args.to.source.now g.end c.read_time.ensures c.requires
