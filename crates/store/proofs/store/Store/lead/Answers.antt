use Rattle.store.proofs.Going.{goes_on, stays}
use Rattle.store.proofs.store.Store.lead.Goals as goal

pub returns-in_err-elect_any-2-clause-goes : goal.returns-in_err-elect_any-2-clause-goes
returns-in_err-elect_any-2-clause-goes g c =
    goes_on g.K.Journal.Device.contents g.K.LogReader.is_honest g.K.LogReader.may_hold g.K.Keeper.holds c.args.self.now c.elect_any.new.self c.elect_any-2.new.self c.elect_any.ensures.goes c.elect_any-2.ensures.goes

pub returns-clause-goes : goal.returns-clause-goes
returns-clause-goes g c =
    goes_on g.K.Journal.Device.contents g.K.LogReader.is_honest g.K.LogReader.may_hold g.K.Keeper.holds c.args.self.now c.elect_any.new.self c.elect_any-2.new.self c.elect_any.ensures.goes c.elect_any-2.ensures.goes

pub returns-then-up-len-clause-goes : goal.returns-then-up-len-clause-goes
returns-then-up-len-clause-goes g c = stays g.K.Journal.Device.contents g.K.LogReader.is_honest g.K.LogReader.may_hold g.K.Keeper.holds c.args.self.now
