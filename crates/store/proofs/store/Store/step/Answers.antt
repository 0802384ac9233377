use Rattle.std.proofs.Common.{◌∙◌, Some, IsErr, ap, rules, FitsSigned, w64}
use Rattle.std.specs.Prelude.{ℤ}
use Rattle.std.proofs.lemmas.Int.{to_z-of_z}
use Rattle.store.specs.Going.{IsBrought, SaysWhy}
use Rattle.store.specs.Recording.{job_of}
use Rattle.store.proofs.Going.{begun, goes_so, only_scribe, publishes_on, stays}
use Rattle.store.proofs.Taking.{says_nothing}
use Rattle.store.proofs.store.Store.step.Goals as goal

pub returns-in_default-clause-goes : goal.returns-in_default-clause-goes
returns-in_default-clause-goes g c = goes_so g.K.Journal.Device.contents g.K.LogReader.is_honest g.K.LogReader.may_hold g.K.Keeper.holds (IsBrought c.args.self.now c.args.member (job_of c.args.reading c.args.taken) c.args.work) _ c.args.self.now c.args.self.now (λ gave. tt) (stays g.K.Journal.Device.contents g.K.LogReader.is_honest g.K.LogReader.may_hold g.K.Keeper.holds c.args.self.now)

pub returns-in_err-begin_step-clause-goes : goal.returns-in_err-begin_step-clause-goes
returns-in_err-begin_step-clause-goes g c =
    let err : IsErr c.from_residual.result = search rules in
    goes_so g.K.Journal.Device.contents g.K.LogReader.is_honest g.K.LogReader.may_hold g.K.Keeper.holds (IsBrought c.args.self.now c.args.member (job_of c.args.reading c.args.taken) c.args.work) _ c.args.self.now c.begin_step.new.self (λ gave. says_nothing c.args.member c.from_residual.result gave err)
    (publishes_on g.K.Journal.Device.contents g.K.LogReader.is_honest g.K.LogReader.may_hold g.K.Keeper.holds c.args.self.now c.begin_step.new.self
    (only_scribe g.K.Journal.Device.contents g.K.LogReader.is_honest g.K.LogReader.may_hold g.K.Keeper.holds c.args.self.now c.begin_step.new.self c.begin_step.ensures.same c.in_err-begin_step.ensures.kept (λ was. c.in_err-begin_step.ensures.fails)))

pub returns-clause-goes : goal.returns-clause-goes
returns-clause-goes g c =
    let fits : FitsSigned w64 c.args.reading = search rules in
    begun g.K.Journal.Device.contents g.K.LogReader.is_honest g.K.LogReader.may_hold g.K.Keeper.holds c.args.member c.args.taken c.args.reading c.args.work (SaysWhy c.args.member c.take_step.result) c.args.self.now c.begin_step.new.self c.take_step.new.self c.begin_step.ensures.same c.in_ok-begin_step.ensures.live.0 c.in_ok-begin_step.ensures.begins
    (c.take_step.ensures.goes c.args.taken c.args.reading (c.in_ok-begin_step.ensures.shown ∙ ap (λ (r : ℤ). Some r) (to_z-of_z w64 c.args.reading fits)))
