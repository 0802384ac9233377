use Rattle.std.proofs.Common.{refl}
use Rattle.store.proofs.Going.{stops_leader}
use Rattle.store.proofs.store.Store.fall.Goals as goal

pub returns-then-eq-clause-stops : goal.returns-then-eq-clause-stops
returns-then-eq-clause-stops g c = stops_leader g.K.Journal.Device.contents g.K.LogReader.is_honest g.K.LogReader.may_hold g.K.Keeper.holds c.args.member c.args.self.now c.stop_node.new.self _ refl c.stop_node.ensures.stops
