use Rattle.std.proofs.Common.{Some}
use Rattle.store.proofs.Continuing.{unfiled_added, unfiled_same}
use Rattle.store.proofs.scribe.Scribe.show.Goals as goal

pub returns-then-eq-clause-continues : goal.returns-then-eq-clause-continues
returns-then-eq-clause-continues g c = unfiled_same g.J.Device.contents (Some c.args.self.now)

pub returns-clause-continues : goal.returns-clause-continues
returns-clause-continues g c = unfiled_added g.J.Device.contents c.add.result c.args.self.now c.add.new.self _ tt c.add.ensures.continues c.add.ensures.lost
