use Rattle.std.proofs.Common.{rules, IsErr}
use Rattle.std.proofs.lemmas.Result.{IfOk-from_err}
use Rattle.store.specs.Going.{Anywhere, ComesOf}
use Rattle.store.proofs.Going.{comes_before, so_then, so_weaker}
use Rattle.store.proofs.store.Store.submit.Goals as goal

pub returns-in_err-outcome-clause-goes : goal.returns-in_err-outcome-clause-goes
returns-in_err-outcome-clause-goes g c =
    let err : IsErr c.from_residual.result = search rules in
    so_weaker g.K.Journal.Device.contents g.K.LogReader.is_honest g.K.LogReader.may_hold g.K.Keeper.holds Anywhere Anywhere _ _ c.args.self.now c.submit_unsettled.new.self (λ w i. tt) (λ gave said. IfOk-from_err c.from_residual.result (λ o. ComesOf c.args.client c.args.number o gave) err) c.submit_unsettled.ensures.goes

pub returns-in_err-settle-clause-goes : goal.returns-in_err-settle-clause-goes
returns-in_err-settle-clause-goes g c =
    let err : IsErr c.from_residual-in_err-settle.result = search rules in
    so_then g.K.Journal.Device.contents g.K.LogReader.is_honest g.K.LogReader.may_hold g.K.Keeper.holds Anywhere _ _ c.args.self.now c.submit_unsettled.new.self c.settle.new.self (λ one two said. IfOk-from_err c.from_residual-in_err-settle.result (λ o. ComesOf c.args.client c.args.number o _) err) c.submit_unsettled.ensures.goes c.settle.ensures.goes

pub returns-clause-goes : goal.returns-clause-goes
returns-clause-goes g c =
    so_then g.K.Journal.Device.contents g.K.LogReader.is_honest g.K.LogReader.may_hold g.K.Keeper.holds Anywhere _ _ c.args.self.now c.submit_unsettled.new.self c.settle.new.self
    (λ one two said. comes_before one two c.args.client c.args.number c.in_ok-outcome.outcome said) c.in_ok-outcome.ensures.goes c.settle.ensures.goes
