use Rattle.std.proofs.Common.{rules, IsErr}
use Rattle.std.proofs.lemmas.Result.{IfOk-from_err}
use Rattle.store.specs.Going.{Anywhere, ComesOf}
use Rattle.store.proofs.Going.{goes_so, stays}
use Rattle.store.proofs.store.Store.submit_unsettled.Goals as goal

pub returns-in_err-check-clause-goes : goal.returns-in_err-check-clause-goes
returns-in_err-check-clause-goes g c =
    let err : IsErr c.from_residual.result = search rules in
    goes_so g.K.Journal.Device.contents g.K.LogReader.is_honest g.K.LogReader.may_hold g.K.Keeper.holds Anywhere _ c.args.self.now c.args.self.now (λ gave. IfOk-from_err c.from_residual.result (λ o. ComesOf c.args.client c.args.number o gave) err) (stays g.K.Journal.Device.contents g.K.LogReader.is_honest g.K.LogReader.may_hold g.K.Keeper.holds c.args.self.now)

pub returns-in_err-check_room-clause-goes : goal.returns-in_err-check_room-clause-goes
returns-in_err-check_room-clause-goes g c =
    let err : IsErr c.from_residual-in_err-check_room.result = search rules in
    goes_so g.K.Journal.Device.contents g.K.LogReader.is_honest g.K.LogReader.may_hold g.K.Keeper.holds Anywhere _ c.args.self.now c.args.self.now (λ gave. IfOk-from_err c.from_residual-in_err-check_room.result (λ o. ComesOf c.args.client c.args.number o gave) err) (stays g.K.Journal.Device.contents g.K.LogReader.is_honest g.K.LogReader.may_hold g.K.Keeper.holds c.args.self.now)
