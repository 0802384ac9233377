use Rattle.std.proofs.Common.{◌∙◌, ap, refl, slice_get}
use Rattle.journal.specs.declared.line.Line.TheVariants.{Ends}
use Rattle.store.proofs.Closing.{rest_after, rest_same}
use Rattle.store.proofs.Going.{ended, stays, unwritten}
use Rattle.store.proofs.Written.{longer_added}
use Rattle.store.proofs.store.Store.end.Goals as goal

pub returns-then-not-is_up-clause-rests : goal.returns-then-not-is_up-clause-rests
returns-then-not-is_up-clause-rests g c = rest_same g.K.LogReader.may_hold g.K.Keeper.holds c.args.self.now.seats.items c.args.self.now.seats.items refl

pub returns-in_err-write-clause-rests : goal.returns-in_err-write-clause-rests
returns-in_err-write-clause-rests g c = rest_same g.K.LogReader.may_hold g.K.Keeper.holds c.args.self.now.seats.items c.write.new.self.seats.items (ap (λ t. t.seats.items) c.write.ensures.same)

pub returns-clause-longer : goal.returns-clause-longer
returns-clause-longer g c = rw c.fall.ensures.scribe (longer_added c.args.self.now.scribe c.write.new.self.scribe (Ends c.args.member) c.in_ok-write.ensures.ok)

pub returns-clause-rests : goal.returns-clause-rests
returns-clause-rests g c =
    let old = c.args.self.now.seats.items in
    let mid = c.write.new.self.seats.items in
    rest_after g.K.LogReader.may_hold g.K.Keeper.holds old mid c.fall.new.self.seats.items (rest_same g.K.LogReader.may_hold g.K.Keeper.holds old mid (ap (λ t. t.seats.items) c.write.ensures.same)) c.fall.ensures.rests

pub returns-then-not-is_up-clause-goes : goal.returns-then-not-is_up-clause-goes
returns-then-not-is_up-clause-goes g c = stays g.K.Journal.Device.contents g.K.LogReader.is_honest g.K.LogReader.may_hold g.K.Keeper.holds c.args.self.now

pub returns-in_err-write-clause-goes : goal.returns-in_err-write-clause-goes
returns-in_err-write-clause-goes g c = unwritten g.K.Journal.Device.contents g.K.LogReader.is_honest g.K.LogReader.may_hold g.K.Keeper.holds c.args.self.now c.write.new.self c.write.ensures.same c.in_err-write.ensures.lost c.in_err-write.ensures.fails

pub returns-clause-goes : goal.returns-clause-goes
returns-clause-goes g c = ended g.K.Journal.Device.contents g.K.LogReader.is_honest g.K.LogReader.may_hold g.K.Keeper.holds c.args.member c.args.self.now c.write.new.self c.fall.new.self c.write.ensures.same c.in_ok-write.ensures.live c.in_ok-write.ensures.continues c.fall.ensures.stops

pub returns-in_err-write-clause-others : goal.returns-in_err-write-clause-others
returns-in_err-write-clause-others g c = λ at apart. ap (λ t. slice_get t.seats.items at) c.write.ensures.same

pub returns-clause-others : goal.returns-clause-others
returns-clause-others g c = λ at apart. c.fall.ensures.others at apart ∙ ap (λ t. slice_get t.seats.items at) c.write.ensures.same
