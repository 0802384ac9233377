use Rattle.std.proofs.Common.{◌≡◌, inl, inr, Ok, Err, Result, OnOk, IsTrue, ap, ◌∙◌, arith}
use Rattle.sqlite.specs.Tree.{Trees}
use Rattle.sqlite.specs.Effect.{Database}
use Rattle.sqlite.specs.declared.error.Error.{Error}
use Rattle.sqlite.specs.State.{State, HasCleanDisk}
use Rattle.sqlite.specs.Held.{state}
use Rattle.durable.specs.Contents.{Contents}
use Rattle.durable.specs.Saving.{IsSaved}
use Rattle.durable.proofs.saving.commit_change.Goals as goal

lasting : (old new : State) (made : Contents → Contents) (result : Result (Unit {0}) Error) → OnOk result (IsSaved old new made) → (IsTrue new.is_open → (trees : Trees) → new.may_leave trees → trees ≡ new.committed.trees)
    → OnOk result ((trees : Trees) → new.may_leave trees → trees ≡ new.now.trees)
lasting old new made (Err e) ok law = tt
lasting old new made (Ok done) ok law = λ trees may. law ok.is_open trees may ∙ ap (λ (db : Database). db.trees) ok.committed

pub returns-clause-clean : goal.returns-clause-clean
returns-clause-clean g c clean = omega (arith, c.transact.ensures.crash.clean)

pub returns-clause-lasting : goal.returns-clause-lasting
returns-clause-lasting g c clean =
    lasting (state g.S.Store c.args.conn.now) (state g.S.Store c.transact.new.conn) _ c.transact.result (c.transact.ensures.ok clean) (λ opened trees may. g.met.S.Store.settled c.transact.new.conn.store trees opened may)

pub returns-clause-torn : goal.returns-clause-torn
returns-clause-torn g c clean trees may =
    let early : HasCleanDisk (state g.S.Store c.args.conn.now) = omega (arith, c.transact.ensures.crash.clean) in
    elim (c.transact.ensures.crash.crash clean trees may) [
      | inl before ↦ inl (g.met.S.Store.settled c.args.conn.now.store trees (c.requires.open early) before)
      | inr made ↦ inr made
    ]
