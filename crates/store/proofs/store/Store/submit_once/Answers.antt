use Rattle.std.proofs.Common.{◌≡◌, Ok, inr, refl, rules, subst, IfSome, IsErr}
use Rattle.std.proofs.lemmas.Option.{IfSome_then}
use Rattle.std.proofs.lemmas.Result.{IfOk-from_err}
use Rattle.store.specs.declared.steps.Stepped.TheVariants as stepped
use Rattle.store.specs.Going.{Anywhere, GoesOnSo, IsOutcome, SaysWhy}
use Rattle.store.proofs.Going.{goes_on, goes_so, only_leader, outcome_then, so_goes, so_then, so_weaker, then_so}
use Rattle.store.proofs.store.Store.submit_once.Goals as goal

pub returns-in_default-clause-goes : goal.returns-in_default-clause-goes
returns-in_default-clause-goes g c =
    goes_so g.K.Journal.Device.contents g.K.LogReader.is_honest g.K.LogReader.may_hold g.K.Keeper.holds Anywhere _ c.args.self.now c.spend.new.self (λ gave. tt) c.spend.ensures.goes

pub returns-in_err-hand-clause-goes : goal.returns-in_err-hand-clause-goes
returns-in_err-hand-clause-goes g c =
    let old = c.args.self.now in
    let err : IsErr c.from_residual.result = search rules in
    so_weaker g.K.Journal.Device.contents g.K.LogReader.is_honest g.K.LogReader.may_hold g.K.Keeper.holds Anywhere Anywhere (SaysWhy c.args.leader c.hand.result) _ old c.hand.new.self (λ w i. tt)
    (λ gave says. IfOk-from_err c.from_residual.result (λ r. IfSome r (λ o. IsOutcome old.watched o gave)) err) c.hand.ensures.goes

pub returns-in-Fell-clause-goes : goal.returns-in-Fell-clause-goes
returns-in-Fell-clause-goes g c =
    so_weaker g.K.Journal.Device.contents g.K.LogReader.is_honest g.K.LogReader.may_hold g.K.Keeper.holds Anywhere Anywhere (SaysWhy c.args.leader c.hand.result) _ c.args.self.now c.hand.new.self (λ w i. tt) (λ gave says. tt) c.hand.ensures.goes

pub returns-in-Refused-NotLeader-clause-goes : goal.returns-in-Refused-NotLeader-clause-goes
returns-in-Refused-NotLeader-clause-goes g c =
    so_then g.K.Journal.Device.contents g.K.LogReader.is_honest g.K.LogReader.may_hold g.K.Keeper.holds Anywhere (SaysWhy c.args.leader c.hand.result) _ c.args.self.now c.hand.new.self _ (λ one two says. tt) c.hand.ensures.goes
    (only_leader g.K.Journal.Device.contents g.K.LogReader.is_honest g.K.LogReader.may_hold g.K.Keeper.holds c.hand.new.self _ refl)

pub returns-in-Refused-clause-goes : goal.returns-in-Refused-clause-goes
returns-in-Refused-clause-goes g c =
    let old = c.args.self.now in
    let e : c.in_ok-hand.field-0 ≡ stepped.Refused c.in-Refused.refusal = cc in
    let goes = subst (λ s. GoesOnSo g.K.Journal.Device.contents g.K.LogReader.is_honest g.K.LogReader.may_hold g.K.Keeper.holds Anywhere (SaysWhy c.args.leader (Ok s)) old c.hand.new.self) e c.in_ok-hand.ensures.goes in
    so_weaker g.K.Journal.Device.contents g.K.LogReader.is_honest g.K.LogReader.may_hold g.K.Keeper.holds Anywhere Anywhere (SaysWhy c.args.leader (Ok (stepped.Refused c.in-Refused.refusal))) _ old c.hand.new.self (λ w i. tt) (λ gave says. inr (c.args.leader, says)) goes

pub returns-in_err-deliver_all-in-Done-clause-goes : goal.returns-in_err-deliver_all-in-Done-clause-goes
returns-in_err-deliver_all-in-Done-clause-goes g c =
    let old = c.args.self.now in
    let err : IsErr c.from_residual-in_err-deliver_all-in-Done.result = search rules in
    so_then g.K.Journal.Device.contents g.K.LogReader.is_honest g.K.LogReader.may_hold g.K.Keeper.holds Anywhere (SaysWhy c.args.leader c.hand.result) _ old c.hand.new.self c.deliver_all.new.self
    (λ one two says. IfOk-from_err c.from_residual-in_err-deliver_all-in-Done.result (λ r. IfSome r (λ o. IsOutcome old.watched o _)) err) c.hand.ensures.goes c.deliver_all.ensures.goes

pub returns-in_ok-deliver_all-in-Done-clause-goes : goal.returns-in_ok-deliver_all-in-Done-clause-goes
returns-in_ok-deliver_all-in-Done-clause-goes g c =
    let old = c.args.self.now in
    let mid = c.deliver_all.new.self in
    let handed = so_goes g.K.Journal.Device.contents g.K.LogReader.is_honest g.K.LogReader.may_hold g.K.Keeper.holds Anywhere (SaysWhy c.args.leader c.hand.result) old c.hand.new.self (λ w i. tt) c.hand.ensures.goes in
    let on = goes_on g.K.Journal.Device.contents g.K.LogReader.is_honest g.K.LogReader.may_hold g.K.Keeper.holds old c.hand.new.self mid handed c.deliver_all.ensures.goes in
    then_so g.K.Journal.Device.contents g.K.LogReader.is_honest g.K.LogReader.may_hold g.K.Keeper.holds _ _ old mid c.take_outcome.new.self
    (λ one two hears said. IfSome_then c.take_outcome.result {P = λ o. IsOutcome mid.watched o two} {Q = λ o. IsOutcome old.watched o _} said (λ o k. outcome_then one two old.watched mid.watched o hears k)) on c.take_outcome.ensures
