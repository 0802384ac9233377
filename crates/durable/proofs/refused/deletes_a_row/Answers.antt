use Rattle.sqlite.specs.Held.{state}
use Rattle.durable.proofs.Refusing.{meta_there}
use Rattle.durable.proofs.refused.deletes_a_row.Goals as goal

pub returns : goal.returns
returns g c = meta_there (state g.S.Store c.close.result).committed g.held (c.close.ensures.kept g.held c.requires.1.0).found c.requires.1.1
