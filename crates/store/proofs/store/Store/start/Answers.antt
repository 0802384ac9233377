use Rattle.std.proofs.Common.{rules}
use Rattle.store.specs.Lives.{HasStored}
use Rattle.store.proofs.Going.{goes_on, lives, lives_unsaid, some_at}
use Rattle.store.proofs.store.Store.start.Goals as goal

pub returns-in_err-write-clause-goes : goal.returns-in_err-write-clause-goes
returns-in_err-write-clause-goes g c = lives_unsaid g.K.Journal.Device.contents g.K.LogReader.is_honest g.K.LogReader.may_hold g.K.Keeper.holds c.args.member c.args.self.now c.start_node.new.self c.write.new.self (c.in_ok-stored.ensures.starts (search rules)) c.write.ensures.same c.in_err-write.ensures.lost c.in_err-write.ensures.fails

pub returns-in_err-bring-clause-goes : goal.returns-in_err-bring-clause-goes
returns-in_err-bring-clause-goes g c =
    goes_on g.K.Journal.Device.contents g.K.LogReader.is_honest g.K.LogReader.may_hold g.K.Keeper.holds c.args.self.now c.write.new.self c.bring.new.self
    (lives g.K.Journal.Device.contents g.K.LogReader.is_honest g.K.LogReader.may_hold g.K.Keeper.holds c.args.member c.in-Some.stored c.args.self.now c.start_node.new.self c.write.new.self (c.in_ok-stored.ensures.starts (search rules)) (some_at _ (HasStored g.K.LogReader.is_honest g.K.LogReader.may_hold g.K.Keeper.holds c.start_node.new.self c.args.member) c.in-Some.stored c.in-Some.is c.in_ok-stored.ensures.stored) c.write.ensures.same c.in_ok-write.ensures.live c.in_ok-write.ensures.continues) c.bring.ensures

pub returns-clause-goes : goal.returns-clause-goes
returns-clause-goes g c =
    goes_on g.K.Journal.Device.contents g.K.LogReader.is_honest g.K.LogReader.may_hold g.K.Keeper.holds c.args.self.now c.bring.new.self c.settle.new.self
    (goes_on g.K.Journal.Device.contents g.K.LogReader.is_honest g.K.LogReader.may_hold g.K.Keeper.holds c.args.self.now c.write.new.self c.bring.new.self
    (lives g.K.Journal.Device.contents g.K.LogReader.is_honest g.K.LogReader.may_hold g.K.Keeper.holds c.args.member c.in-Some.stored c.args.self.now c.start_node.new.self c.write.new.self (c.in_ok-stored.ensures.starts (search rules)) (some_at _ (HasStored g.K.LogReader.is_honest g.K.LogReader.may_hold g.K.Keeper.holds c.start_node.new.self c.args.member) c.in-Some.stored c.in-Some.is c.in_ok-stored.ensures.stored) c.write.ensures.same c.in_ok-write.ensures.live c.in_ok-write.ensures.continues) c.bring.ensures) c.settle.ensures.goes
