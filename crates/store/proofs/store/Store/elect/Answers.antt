use Rattle.store.specs.Going.{Anywhere, SaysWhy}
use Rattle.store.proofs.Going.{goes_on, so_goes}
use Rattle.store.proofs.store.Store.elect.Goals as goal

pub returns-in_err-hand-clause-goes : goal.returns-in_err-hand-clause-goes
returns-in_err-hand-clause-goes g c =
    so_goes g.K.Journal.Device.contents g.K.LogReader.is_honest g.K.LogReader.may_hold g.K.Keeper.holds Anywhere (SaysWhy c.args.member c.hand.result) c.args.self.now c.hand.new.self (λ w i. tt) c.hand.ensures.goes

pub returns-clause-goes : goal.returns-clause-goes
returns-clause-goes g c =
    let handed = so_goes g.K.Journal.Device.contents g.K.LogReader.is_honest g.K.LogReader.may_hold g.K.Keeper.holds Anywhere (SaysWhy c.args.member c.hand.result) c.args.self.now c.hand.new.self (λ w i. tt) c.hand.ensures.goes in
    goes_on g.K.Journal.Device.contents g.K.LogReader.is_honest g.K.LogReader.may_hold g.K.Keeper.holds c.args.self.now c.hand.new.self c.deliver_all.new.self handed c.deliver_all.ensures.goes
