use Rattle.store.proofs.Going.{ended, ended_late, ended_unsaid, goes_on, unwritten}
use Rattle.store.proofs.store.Store.end_now.Goals as goal

pub returns-in_err-write-clause-goes : goal.returns-in_err-write-clause-goes
returns-in_err-write-clause-goes g c = unwritten g.K.Journal.Device.contents g.K.LogReader.is_honest g.K.LogReader.may_hold g.K.Keeper.holds c.args.self.now c.write.new.self c.write.ensures.same c.in_err-write.ensures.lost c.in_err-write.ensures.fails

pub returns-in_err-write-clause-late : goal.returns-in_err-write-clause-late
returns-in_err-write-clause-late g c = λ first fell. ended_unsaid g.K.Journal.Device.contents g.K.LogReader.is_honest g.K.LogReader.may_hold g.K.Keeper.holds c.args.member first c.args.self.now c.write.new.self fell c.write.ensures.same c.in_err-write.ensures.lost c.in_err-write.ensures.fails

pub returns-clause-goes : goal.returns-clause-goes
returns-clause-goes g c =
    goes_on g.K.Journal.Device.contents g.K.LogReader.is_honest g.K.LogReader.may_hold g.K.Keeper.holds c.args.self.now c.fall.new.self c.settle.new.self
    (ended g.K.Journal.Device.contents g.K.LogReader.is_honest g.K.LogReader.may_hold g.K.Keeper.holds c.args.member c.args.self.now c.write.new.self c.fall.new.self c.write.ensures.same c.in_ok-write.ensures.live c.in_ok-write.ensures.continues c.fall.ensures.stops) c.settle.ensures.goes

pub returns-clause-late : goal.returns-clause-late
returns-clause-late g c = λ first fell.
    goes_on g.K.Journal.Device.contents g.K.LogReader.is_honest g.K.LogReader.may_hold g.K.Keeper.holds first c.fall.new.self c.settle.new.self
    (ended_late g.K.Journal.Device.contents g.K.LogReader.is_honest g.K.LogReader.may_hold g.K.Keeper.holds c.args.member first c.args.self.now c.write.new.self c.fall.new.self fell c.write.ensures.same c.in_ok-write.ensures.live c.in_ok-write.ensures.continues c.fall.ensures.stops) c.settle.ensures.goes
