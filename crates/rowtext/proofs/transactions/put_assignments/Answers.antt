use Rattle.std.proofs.Common.{◌++◌, codes}
use Rattle.std.specs.List.{flat_map}
use Rattle.sqlsyntax.specs.Transactions.{assignment as assignment_phrase}
use Rattle.rowtext.specs.Spacing.{Start, line}
use Rattle.rowtext.specs.Transactions.{assignment_of}
use Rattle.rowtext.proofs.Statements.{assignments_written}
use Rattle.answertext.proofs.Putting.{after, puts_same, fault_in}
use Rattle.rowtext.proofs.transactions.put_assignments.Goals as goal

pub returns-in_err-put : goal.returns-in_err-put
returns-in_err-put g c =
    let table = c.args.table.now in
    let cases = rw c.in_ok-first.ensures.ok_part at c.split_first.ensures.cases in
    fault_in g.S.Sink.takes g.S.Sink.begins _ _ c.from_residual-in_err-put.result _ _ c.from_residual-in_err-put.ensures.0
    (assignments_written table c.args.assignments.now _ _ cases.0)
    (g.met.S.Sink.longer _ _ _ (flat_map (λ a. codes ", " ++ line Start (assignment_phrase.spell (assignment_of table a))) c.in_ok-first.others.now) c.in_err-put.ensures)

pub returns : goal.returns
returns g c =
    let cases = rw c.in_ok-first.ensures.ok_part at c.split_first.ensures.cases in
    let first = c.in_ok-put.ensures in
    let others = c.put_more.ensures in
    let done = after c.put_more.result _ _ _ _ others (λ t. g.met.S.Sink.then_takes _ _ _ _ _ first t) (λ t. g.met.S.Sink.then_begins _ _ _ _ _ first t) in
    puts_same g.S.Sink.takes g.S.Sink.begins _ _ c.put_more.result _ _ (assignments_written c.args.table.now c.args.assignments.now _ _ cases.0) done
