use Rattle.std.proofs.Common.{refl, ◌+◌, Ok, ap, ◌∙◌, subst, arith}
use Rattle.sqlite.specs.State.{HasCleanDisk, Executes, ExecutesInside}
use Rattle.sqlite.specs.Held.{state}
use Rattle.durable.specs.Contents.{Contents, item_of}
use Rattle.durable.specs.Rows.{Holds, entry_values}
use Rattle.durable.proofs.Meaning.{insert_text}
use Rattle.durable.proofs.Inserting.{inserts}
use Rattle.durable.proofs.Stepping.{in_scope, statement_keeps, goes_by, same_count}
use Rattle.durable.proofs.steps.append_one.Goals as goal

pub returns-clause-ok : goal.returns-clause-ok
returns-clause-ok g c clean =
    let old = state g.S.Store c.args.tx.now.conn.now in
    let new = state g.S.Store c.execute.new.self.conn.now in
    let was = in_scope old.in_transaction _ _ _ (c.in_ok-execute.was) c.execute.ensures.ended in
    let early : HasCleanDisk old = omega (arith, c.execute.ensures.survives.clean) in
    let count = c.in_ok-execute.field-0 in
    let ran : ExecutesInside 0 insert_text (entry_values c.args.at.value (item_of c.args.entry.now)) old new (Ok count) =
    rw (c.params-to_sql.ensures, c.params-to_sql-2.ensures, c.params-to_sql-3.ensures, c.params-to_sql-4.ensures, c.params-to_sql-5.ensures, c.params-to_sql-6.ensures, c.micros.ensures.value, c.client_of-client.ensures, c.number_of-number.ensures, c.body_of-body.ensures.text) at (c.in_ok-execute.ensures.runs clean was) in
    let place = c.requires.next early in
    goes_by old new insert_text _ count _ was (λ (d : Contents) (has : Holds old.now d) h. inserts old new d (item_of c.args.entry.now) count has
    (subst (λ n. Executes insert_text (entry_values n (item_of c.args.entry.now)) old new (Ok count)) (place.2 ∙ ap (λ n. n + 1) (same_count old.now place.0 d place.1 has)) h)) ran

pub returns-clause-keeps : goal.returns-clause-keeps
returns-clause-keeps g c clean =
    statement_keeps g.S.Store c.args.tx.now.conn.now c.execute.new.self.conn.now _ _ c.execute.result _ _ refl c.execute.ensures.ended (c.execute.ensures.runs clean)

pub returns-in_err-execute-clause-keeps : goal.returns-in_err-execute-clause-keeps
returns-in_err-execute-clause-keeps g c clean =
    statement_keeps g.S.Store c.args.tx.now.conn.now c.execute.new.self.conn.now _ _ c.execute.result _ _ refl c.execute.ensures.ended (c.execute.ensures.runs clean)
