use Rattle.std.proofs.Common.{rules, ◌≡◌, IsErr, subst}
use Rattle.std.proofs.lemmas.Result.{IfOk-from_err}
use Rattle.store.specs.Going.{Anywhere, ComesOf}
use Rattle.store.proofs.Going.{comes_then, goes_so, so_goes, goes_on, stays, then_so}
use Rattle.store.proofs.store.Store.execute_unsettled.Goals as goal

pub returns-in_err-check-clause-goes : goal.returns-in_err-check-clause-goes
returns-in_err-check-clause-goes g c =
    let err : IsErr c.from_residual.result = search rules in
    goes_so g.K.Journal.Device.contents g.K.LogReader.is_honest g.K.LogReader.may_hold g.K.Keeper.holds Anywhere _ c.args.self.now c.args.self.now (λ gave. IfOk-from_err c.from_residual.result (λ r. ComesOf 65535 r.0 r.1 gave) err) (stays g.K.Journal.Device.contents g.K.LogReader.is_honest g.K.LogReader.may_hold g.K.Keeper.holds c.args.self.now)

pub returns-in_err-check_room-clause-goes : goal.returns-in_err-check_room-clause-goes
returns-in_err-check_room-clause-goes g c =
    let err : IsErr c.from_residual-in_err-check_room.result = search rules in
    goes_so g.K.Journal.Device.contents g.K.LogReader.is_honest g.K.LogReader.may_hold g.K.Keeper.holds Anywhere _ c.args.self.now c.args.self.now (λ gave. IfOk-from_err c.from_residual-in_err-check_room.result (λ r. ComesOf 65535 r.0 r.1 gave) err) (stays g.K.Journal.Device.contents g.K.LogReader.is_honest g.K.LogReader.may_hold g.K.Keeper.holds c.args.self.now)

pub returns-in_err-next-clause-goes : goal.returns-in_err-next-clause-goes
returns-in_err-next-clause-goes g c =
    let err : IsErr c.from_residual-in_err-next.result = search rules in
    goes_so g.K.Journal.Device.contents g.K.LogReader.is_honest g.K.LogReader.may_hold g.K.Keeper.holds Anywhere _ c.args.self.now c.find_next.new.self (λ gave. IfOk-from_err c.from_residual-in_err-next.result (λ r. ComesOf 65535 r.0 r.1 gave) err) c.find_next.ensures.goes

pub returns-in_default-clause-goes : goal.returns-in_default-clause-goes
returns-in_default-clause-goes g c =
    goes_so g.K.Journal.Device.contents g.K.LogReader.is_honest g.K.LogReader.may_hold g.K.Keeper.holds Anywhere _ c.args.self.now c.find_next.new.self (λ gave. tt) c.find_next.ensures.goes

pub returns-in_err-outcome-clause-goes : goal.returns-in_err-outcome-clause-goes
returns-in_err-outcome-clause-goes g c =
    let old = c.args.self.now in
    let mid = c.find_next.new.self in
    let new = c.hand_in.new.self in
    let err : IsErr c.from_residual-in_err-outcome.result = search rules in
    goes_so g.K.Journal.Device.contents g.K.LogReader.is_honest g.K.LogReader.may_hold g.K.Keeper.holds Anywhere _ old new (λ gave. IfOk-from_err c.from_residual-in_err-outcome.result (λ r. ComesOf 65535 r.0 r.1 gave) err)
    (goes_on g.K.Journal.Device.contents g.K.LogReader.is_honest g.K.LogReader.may_hold g.K.Keeper.holds old mid new c.find_next.ensures.goes (so_goes g.K.Journal.Device.contents g.K.LogReader.is_honest g.K.LogReader.may_hold g.K.Keeper.holds Anywhere _ mid new (λ w i. tt) c.hand_in.ensures.goes))

pub returns-clause-goes : goal.returns-clause-goes
returns-clause-goes g c =
    let old = c.args.self.now in
    let mid = c.find_next.new.self in
    let new = c.hand_in.new.self in
    let client : c.in-Some-Some.client ≡ 65535 = search rules in
    then_so g.K.Journal.Device.contents g.K.LogReader.is_honest g.K.LogReader.may_hold g.K.Keeper.holds _ _ old mid new
    (λ one two hears said. comes_then one two 65535 c.in-Some-Some.number c.in_ok-outcome.outcome (subst (λ k. ComesOf k c.in-Some-Some.number c.in_ok-outcome.outcome two) client said)) c.find_next.ensures.goes c.in_ok-outcome.ensures.goes
