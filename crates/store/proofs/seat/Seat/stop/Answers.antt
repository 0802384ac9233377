use Rattle.store.proofs.Closing.{not_up, rests_itself}
use Rattle.store.proofs.seat.Seat.stop.Goals as goal

pub returns-then-not-is_up-clause-rests : goal.returns-then-not-is_up-clause-rests
returns-then-not-is_up-clause-rests g c = rests_itself g.K.LogReader.may_hold g.K.Keeper.holds c.args.self.now (not_up c.args.self.now.node c.is_up.result c.is_up.ensures.1 c.if-not-is_up.true)
