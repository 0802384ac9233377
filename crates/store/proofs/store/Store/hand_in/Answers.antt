use Rattle.std.proofs.Common.{rules, IsErr, Option, Some, None, refl}
use Rattle.std.proofs.lemmas.Result.{IfOk-from_err}
use Rattle.store.specs.declared.steps.Watched.{Watched}
use Rattle.store.specs.Going.{Anywhere, ComesOf}
use Rattle.store.proofs.Going.{comes_before, goes_so, outcome_comes, so_then, so_weaker, stays, waited}
use Rattle.store.proofs.store.Store.hand_in.Goals as goal

pub returns-in_err-text-clause-goes : goal.returns-in_err-text-clause-goes
returns-in_err-text-clause-goes g c =
    let err : IsErr c.from_residual.result = search rules in
    goes_so g.K.Journal.Device.contents g.K.LogReader.is_honest g.K.LogReader.may_hold g.K.Keeper.holds Anywhere _ c.args.self.now c.args.self.now (λ gave. IfOk-from_err c.from_residual.result (λ o. ComesOf c.args.client c.args.number o gave) err) (stays g.K.Journal.Device.contents g.K.LogReader.is_honest g.K.LogReader.may_hold g.K.Keeper.holds c.args.self.now)

pub returns-in_err-outcome-clause-goes : goal.returns-in_err-outcome-clause-goes
returns-in_err-outcome-clause-goes g c =
    let err : IsErr c.from_residual-in_err-outcome.result = search rules in
    so_weaker g.K.Journal.Device.contents g.K.LogReader.is_honest g.K.LogReader.may_hold g.K.Keeper.holds Anywhere Anywhere _ _ c.args.self.now _ (λ w i. tt) (λ gave said. IfOk-from_err c.from_residual-in_err-outcome.result (λ o. ComesOf c.args.client c.args.number o gave) err)
    (waited g.K.Journal.Device.contents g.K.LogReader.is_honest g.K.LogReader.may_hold g.K.Keeper.holds _ c.args.self.now c.decide-decided.new.self _ c.decide-decided.ensures.goes)

pub returns-in_err-print-clause-goes : goal.returns-in_err-print-clause-goes
returns-in_err-print-clause-goes g c =
    let err : IsErr c.from_residual-in_err-print.result = search rules in
    so_then g.K.Journal.Device.contents g.K.LogReader.is_honest g.K.LogReader.may_hold g.K.Keeper.holds Anywhere _ _ c.args.self.now _ c.print.new.self (λ one two said. IfOk-from_err c.from_residual-in_err-print.result (λ o. ComesOf c.args.client c.args.number o _) err)
    (waited g.K.Journal.Device.contents g.K.LogReader.is_honest g.K.LogReader.may_hold g.K.Keeper.holds _ c.args.self.now c.decide-decided.new.self _ c.decide-decided.ensures.goes) c.print.ensures.goes

pub returns-clause-goes : goal.returns-clause-goes
returns-clause-goes g c =
    let watched : Option Watched = Some (record { client = c.args.client; number = c.args.number; after = c.args.self.now.heard; outcome = None }) in
    so_then g.K.Journal.Device.contents g.K.LogReader.is_honest g.K.LogReader.may_hold g.K.Keeper.holds Anywhere _ _ c.args.self.now _ c.print.new.self
    (λ one two said. comes_before one two c.args.client c.args.number c.in_ok-outcome.outcome (outcome_comes watched _ c.in_ok-outcome.outcome one refl refl said))
    (waited g.K.Journal.Device.contents g.K.LogReader.is_honest g.K.LogReader.may_hold g.K.Keeper.holds _ c.args.self.now c.decide-decided.new.self watched c.in_ok-outcome.ensures.goes) c.print.ensures.goes
