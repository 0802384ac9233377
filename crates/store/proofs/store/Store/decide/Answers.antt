use Rattle.std.proofs.Common.{rules, subst, IfSome, IsErr}
use Rattle.std.proofs.lemmas.Result.{IfOk-from_err}
use Rattle.store.specs.Going.{Anywhere, GoesOnSo, IsOutcome}
use Rattle.store.proofs.Going.{goes_on, goes_so, outcome_then, so_goes, stays, then_so}
use Rattle.store.proofs.store.Store.decide.Goals as goal

pub loop-init : goal.loop-init
loop-init g c = stays g.K.Journal.Device.contents g.K.LogReader.is_honest g.K.LogReader.may_hold g.K.Keeper.holds c.args.self.now

pub loop-preserved : goal.loop-preserved
loop-preserved g c =
    let old = c.args.self.now in
    let led = goes_on g.K.Journal.Device.contents g.K.LogReader.is_honest g.K.LogReader.may_hold g.K.Keeper.holds old c.loop.self c.lead.new.self c.loop.invariant c.lead.ensures.goes in
    goes_on g.K.Journal.Device.contents g.K.LogReader.is_honest g.K.LogReader.may_hold g.K.Keeper.holds old c.lead.new.self c.submit_once.new.self led
    (so_goes g.K.Journal.Device.contents g.K.LogReader.is_honest g.K.LogReader.may_hold g.K.Keeper.holds Anywhere _ c.lead.new.self c.submit_once.new.self (λ w i. tt) c.submit_once.ensures.goes)

pub returns-in_err-leader-clause-goes : goal.returns-in_err-leader-clause-goes
returns-in_err-leader-clause-goes g c =
    let err : IsErr c.from_residual.result = search rules in
    goes_so g.K.Journal.Device.contents g.K.LogReader.is_honest g.K.LogReader.may_hold g.K.Keeper.holds Anywhere _ c.args.self.now c.lead.new.self (λ gave. IfOk-from_err c.from_residual.result (λ o. IsOutcome c.args.self.now.watched o gave) err)
    (goes_on g.K.Journal.Device.contents g.K.LogReader.is_honest g.K.LogReader.may_hold g.K.Keeper.holds c.args.self.now c.loop.self c.lead.new.self c.loop.invariant c.lead.ensures.goes)

pub returns-in_default-clause-goes : goal.returns-in_default-clause-goes
returns-in_default-clause-goes g c =
    goes_so g.K.Journal.Device.contents g.K.LogReader.is_honest g.K.LogReader.may_hold g.K.Keeper.holds Anywhere _ c.args.self.now c.lead.new.self (λ gave. tt)
    (goes_on g.K.Journal.Device.contents g.K.LogReader.is_honest g.K.LogReader.may_hold g.K.Keeper.holds c.args.self.now c.loop.self c.lead.new.self c.loop.invariant c.lead.ensures.goes)

pub returns-in_default-clone-clause-goes : goal.returns-in_default-clone-clause-goes
returns-in_default-clone-clause-goes g c =
    let led = goes_on g.K.Journal.Device.contents g.K.LogReader.is_honest g.K.LogReader.may_hold g.K.Keeper.holds c.args.self.now c.loop.self c.lead.new.self c.loop.invariant c.lead.ensures.goes in
    goes_so g.K.Journal.Device.contents g.K.LogReader.is_honest g.K.LogReader.may_hold g.K.Keeper.holds Anywhere _ c.args.self.now c.spend.new.self (λ gave. tt)
    (goes_on g.K.Journal.Device.contents g.K.LogReader.is_honest g.K.LogReader.may_hold g.K.Keeper.holds c.args.self.now c.lead.new.self c.spend.new.self led c.spend.ensures.goes)

pub returns-in_err-outcome-clause-goes : goal.returns-in_err-outcome-clause-goes
returns-in_err-outcome-clause-goes g c =
    let old = c.args.self.now in
    let led = goes_on g.K.Journal.Device.contents g.K.LogReader.is_honest g.K.LogReader.may_hold g.K.Keeper.holds old c.loop.self c.lead.new.self c.loop.invariant c.lead.ensures.goes in
    let err : IsErr c.from_residual-in_err-outcome.result = search rules in
    goes_so g.K.Journal.Device.contents g.K.LogReader.is_honest g.K.LogReader.may_hold g.K.Keeper.holds Anywhere _ old c.submit_once.new.self (λ gave. IfOk-from_err c.from_residual-in_err-outcome.result (λ o. IsOutcome old.watched o gave) err)
    (goes_on g.K.Journal.Device.contents g.K.LogReader.is_honest g.K.LogReader.may_hold g.K.Keeper.holds old c.lead.new.self c.submit_once.new.self led
    (so_goes g.K.Journal.Device.contents g.K.LogReader.is_honest g.K.LogReader.may_hold g.K.Keeper.holds Anywhere _ c.lead.new.self c.submit_once.new.self (λ w i. tt) c.submit_once.ensures.goes))

pub returns-in-Some-2-clause-goes : goal.returns-in-Some-2-clause-goes
returns-in-Some-2-clause-goes g c =
    let old = c.args.self.now in
    let mid = c.lead.new.self in
    let led = goes_on g.K.Journal.Device.contents g.K.LogReader.is_honest g.K.LogReader.may_hold g.K.Keeper.holds old c.loop.self mid c.loop.invariant c.lead.ensures.goes in
    let goes = subst (λ r. GoesOnSo g.K.Journal.Device.contents g.K.LogReader.is_honest g.K.LogReader.may_hold g.K.Keeper.holds Anywhere (λ gave. IfSome r (λ o. IsOutcome mid.watched o gave)) mid c.submit_once.new.self) c.in-Some-2.is c.in_ok-outcome.ensures.goes in
    then_so g.K.Journal.Device.contents g.K.LogReader.is_honest g.K.LogReader.may_hold g.K.Keeper.holds (λ gave. IsOutcome mid.watched c.in-Some-2.outcome gave) _ old mid c.submit_once.new.self
    (λ one two hears said. outcome_then one two old.watched mid.watched c.in-Some-2.outcome hears said) led goes

pub returns-clause-goes : goal.returns-clause-goes
returns-clause-goes g c =
    goes_so g.K.Journal.Device.contents g.K.LogReader.is_honest g.K.LogReader.may_hold g.K.Keeper.holds Anywhere _ c.args.self.now c.loop.self (λ gave. tt) c.loop.invariant
