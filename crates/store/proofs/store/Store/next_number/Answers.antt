use Rattle.store.proofs.Going.{goes_on}
use Rattle.store.proofs.store.Store.next_number.Goals as goal

pub returns-in_err-settle-clause-goes : goal.returns-in_err-settle-clause-goes
returns-in_err-settle-clause-goes g c = goes_on g.K.Journal.Device.contents g.K.LogReader.is_honest g.K.LogReader.may_hold g.K.Keeper.holds c.args.self.now c.find_next.new.self c.settle.new.self c.find_next.ensures.goes c.settle.ensures.goes

pub returns-clause-goes : goal.returns-clause-goes
returns-clause-goes g c = goes_on g.K.Journal.Device.contents g.K.LogReader.is_honest g.K.LogReader.may_hold g.K.Keeper.holds c.args.self.now c.find_next.new.self c.settle.new.self c.find_next.ensures.goes c.settle.ensures.goes
