use Rattle.store.specs.Going.{Anywhere, SaysWhy}
use Rattle.store.proofs.Going.{goes_on, so_goes}
use Rattle.store.proofs.store.Store.close_time.Goals as goal

pub returns-in_err-hand-clause-goes : goal.returns-in_err-hand-clause-goes
returns-in_err-hand-clause-goes g c =
    goes_on g.K.Journal.Device.contents g.K.LogReader.is_honest g.K.LogReader.may_hold g.K.Keeper.holds c.args.self.now c.lead.new.self c.hand.new.self c.lead.ensures.goes
    (so_goes g.K.Journal.Device.contents g.K.LogReader.is_honest g.K.LogReader.may_hold g.K.Keeper.holds Anywhere (SaysWhy c.in-Some.leader c.hand.result) c.lead.new.self c.hand.new.self (λ w i. tt) c.hand.ensures.goes)

pub returns-clause-goes : goal.returns-clause-goes
returns-clause-goes g c =
    let handed = goes_on g.K.Journal.Device.contents g.K.LogReader.is_honest g.K.LogReader.may_hold g.K.Keeper.holds c.args.self.now c.lead.new.self c.hand.new.self c.lead.ensures.goes
    (so_goes g.K.Journal.Device.contents g.K.LogReader.is_honest g.K.LogReader.may_hold g.K.Keeper.holds Anywhere (SaysWhy c.in-Some.leader c.hand.result) c.lead.new.self c.hand.new.self (λ w i. tt) c.hand.ensures.goes) in
    goes_on g.K.Journal.Device.contents g.K.LogReader.is_honest g.K.LogReader.may_hold g.K.Keeper.holds c.args.self.now c.hand.new.self c.deliver_all.new.self handed c.deliver_all.ensures.goes
