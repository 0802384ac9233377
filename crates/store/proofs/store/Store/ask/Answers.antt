use Rattle.store.proofs.Going.{goes_on}
use Rattle.store.proofs.store.Store.ask.Goals as goal

pub returns-in_err-tell-in-Ok-clause-goes : goal.returns-in_err-tell-in-Ok-clause-goes
returns-in_err-tell-in-Ok-clause-goes g c = goes_on g.K.Journal.Device.contents g.K.LogReader.is_honest g.K.LogReader.may_hold g.K.Keeper.holds c.args.self.now c.ask_closed.new.self c.tell.new.self c.ask_closed.ensures.goes c.tell.ensures.goes

pub returns-in_ok-tell-in-Ok-clause-goes : goal.returns-in_ok-tell-in-Ok-clause-goes
returns-in_ok-tell-in-Ok-clause-goes g c = goes_on g.K.Journal.Device.contents g.K.LogReader.is_honest g.K.LogReader.may_hold g.K.Keeper.holds c.args.self.now c.ask_closed.new.self c.tell.new.self c.ask_closed.ensures.goes c.tell.ensures.goes

pub returns-in_err-tell-in-Err-NotClosed-clause-goes : goal.returns-in_err-tell-in-Err-NotClosed-clause-goes
returns-in_err-tell-in-Err-NotClosed-clause-goes g c = goes_on g.K.Journal.Device.contents g.K.LogReader.is_honest g.K.LogReader.may_hold g.K.Keeper.holds c.args.self.now c.ask_closed.new.self c.tell-in-Err-NotClosed.new.self c.ask_closed.ensures.goes c.tell-in-Err-NotClosed.ensures.goes

pub returns-in_ok-tell-in-Err-NotClosed-clause-goes : goal.returns-in_ok-tell-in-Err-NotClosed-clause-goes
returns-in_ok-tell-in-Err-NotClosed-clause-goes g c = goes_on g.K.Journal.Device.contents g.K.LogReader.is_honest g.K.LogReader.may_hold g.K.Keeper.holds c.args.self.now c.ask_closed.new.self c.tell-in-Err-NotClosed.new.self c.ask_closed.ensures.goes c.tell-in-Err-NotClosed.ensures.goes
