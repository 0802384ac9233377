use Rattle.std.proofs.Common.{refl, [], ◌∷◌, Ok}
use Rattle.sqlite.specs.declared.types.Value.TheVariants.{Int}
use Rattle.sqlite.specs.State.{ExecutesInside}
use Rattle.sqlite.specs.Held.{state}
use Rattle.durable.specs.Contents.{Contents, number_of_floor}
use Rattle.durable.specs.Rows.{Holds}
use Rattle.durable.proofs.Meaning.{update_floor_text}
use Rattle.durable.proofs.Flooring.{floor_updates}
use Rattle.durable.proofs.Stepping.{in_scope, statement_keeps, goes_by}
use Rattle.durable.proofs.steps.set_floor.Goals as goal

pub returns-clause-ok : goal.returns-clause-ok
returns-clause-ok g c clean =
    let old = state g.S.Store c.args.tx.now.conn.now in
    let new = state g.S.Store c.execute.new.self.conn.now in
    let was = in_scope old.in_transaction _ _ _ (c.in_ok-execute.was) c.execute.ensures.ended in
    let count = c.in_ok-execute.field-0 in
    let ran : ExecutesInside 0 update_floor_text (Int (number_of_floor c.args.floor) ∷ []) old new (Ok count) = rw (c.params-to_sql.ensures) at (c.in_ok-execute.ensures.runs clean was) in
    goes_by old new update_floor_text _ count _ was (λ (d : Contents) (has : Holds old.now d) h. floor_updates old new d c.args.floor count has h) ran

pub returns-clause-keeps : goal.returns-clause-keeps
returns-clause-keeps g c clean =
    statement_keeps g.S.Store c.args.tx.now.conn.now c.execute.new.self.conn.now _ _ c.execute.result _ _ refl c.execute.ensures.ended (c.execute.ensures.runs clean)

pub returns-in_err-execute-clause-keeps : goal.returns-in_err-execute-clause-keeps
returns-in_err-execute-clause-keeps g c clean =
    statement_keeps g.S.Store c.args.tx.now.conn.now c.execute.new.self.conn.now _ _ c.execute.result _ _ refl c.execute.ensures.ended (c.execute.ensures.runs clean)
