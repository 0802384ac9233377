use Rattle.std.proofs.Common.{◌<◌, List, ℕ, length, subst, arith}
use Rattle.sqlread.specs.Shapes.{statement_of}
use Rattle.rowtext.specs.Transactions.{statement_text}
use Rattle.answertext.proofs.Joining.{mapped-next, mapped-all, flat_after}
use Rattle.answertext.proofs.Putting.{fault_in}
use Rattle.rowtext.proofs.transactions.put_statements.Goals as goal

pub returns-in_err-put_statement : goal.returns-in_err-put_statement
returns-in_err-put_statement g c =
    let text = statement_text c.args.schema.now in
    let all = c.args.statements.now in
    let i = c.loop-statement.statement-index in
    let item = c.statement-item.result in
    let within : i < length all = omega arith in
    let begun = g.met.S.Sink.then_begins _ _ _ _ _ c.loop-statement.invariant c.in_err-put_statement.ensures in
    fault_in g.S.Sink.takes g.S.Sink.begins _ _ c.from_residual.result _ _ c.from_residual.ensures.0
    (mapped-all text statement_of all i item within c.statement-item.is)
    (g.met.S.Sink.longer _ _ _ (flat_after (λ s. text (statement_of s)) all i item within c.statement-item.is) begun)

pub loop-statement-preserved : goal.loop-statement-preserved
loop-statement-preserved g c =
    let text = statement_text c.args.schema.now in
    let all = c.args.statements.now in
    let i = c.loop-statement.statement-index in
    let item = c.statement-item.result in
    let within : i < length all = omega arith in
    subst (λ (t : List ℕ). g.S.Sink.takes c.args.sink.now t c.put_statement.new.sink) (mapped-next text statement_of all i item within c.statement-item.is)
    (g.met.S.Sink.then_takes _ _ _ _ _ c.loop-statement.invariant c.in_ok-put_statement.ensures)
