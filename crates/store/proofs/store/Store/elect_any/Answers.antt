use Rattle.store.proofs.Going.{goes_on, stays}
use Rattle.store.proofs.store.Store.elect_any.Goals as goal

pub loop-at-init : goal.loop-at-init
loop-at-init g c = stays g.K.Journal.Device.contents g.K.LogReader.is_honest g.K.LogReader.may_hold g.K.Keeper.holds c.args.self.now

pub loop-at-preserved : goal.loop-at-preserved
loop-at-preserved g c = goes_on g.K.Journal.Device.contents g.K.LogReader.is_honest g.K.LogReader.may_hold g.K.Keeper.holds c.args.self.now c.loop-at.self c.elect.new.self c.loop-at.invariant c.elect.ensures.goes

pub returns-in_err-elect-clause-goes : goal.returns-in_err-elect-clause-goes
returns-in_err-elect-clause-goes g c = goes_on g.K.Journal.Device.contents g.K.LogReader.is_honest g.K.LogReader.may_hold g.K.Keeper.holds c.args.self.now c.loop-at.self c.elect.new.self c.loop-at.invariant c.elect.ensures.goes
