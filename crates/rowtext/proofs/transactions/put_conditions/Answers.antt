use Rattle.std.proofs.Common.{◌++◌, codes}
use Rattle.std.specs.List.{flat_map}
use Rattle.sqlsyntax.specs.Shared.{comparison as comparison_phrase}
use Rattle.rowtext.specs.Spacing.{Start, line}
use Rattle.rowtext.specs.Transactions.{comparison_of}
use Rattle.rowtext.proofs.Statements.{conditions_written}
use Rattle.answertext.proofs.Putting.{after, puts_same, fault_in}
use Rattle.rowtext.proofs.transactions.put_conditions.Goals as goal

pub returns-in_err-put : goal.returns-in_err-put
returns-in_err-put g c =
    let table = c.args.table.now in
    let cases = rw c.in-Some.is at c.split_first.ensures.cases in
    let rest = flat_map (λ d. codes " AND " ++ line Start (comparison_phrase.spell (comparison_of table d))) c.in-Some.others.now in
    fault_in g.S.Sink.takes g.S.Sink.begins _ _ c.from_residual.result _ _ c.from_residual.ensures.0 (conditions_written table c.args.conditions.now _ _ c.in-Some.ensures.cases.0)
    (g.met.S.Sink.longer _ _ _ rest (g.met.S.Sink.longer _ _ _ (line Start (comparison_phrase.spell (comparison_of table c.in-Some.first.now))) c.in_err-put.ensures))

pub returns-in_err-put-2 : goal.returns-in_err-put-2
returns-in_err-put-2 g c =
    let table = c.args.table.now in
    let rest = flat_map (λ d. codes " AND " ++ line Start (comparison_phrase.spell (comparison_of table d))) c.in-Some.others.now in
    fault_in g.S.Sink.takes g.S.Sink.begins _ _ c.from_residual-in_err-put-2.result _ _ c.from_residual-in_err-put-2.ensures.0 (conditions_written table c.args.conditions.now _ _ c.in-Some.ensures.cases.0)
    (g.met.S.Sink.longer _ _ _ rest (g.met.S.Sink.then_begins _ _ _ _ _ c.in_ok-put.ensures c.in_err-put-2.ensures))

pub returns : goal.returns
returns g c =
    let word = c.in_ok-put.ensures in
    let first = g.met.S.Sink.then_takes _ _ _ _ _ word c.in_ok-put-2.ensures in
    let others = c.put_more.ensures in
    let done = after c.put_more.result _ _ _ _ others (λ t. g.met.S.Sink.then_takes _ _ _ _ _ first t) (λ t. g.met.S.Sink.then_begins _ _ _ _ _ first t) in
    puts_same g.S.Sink.takes g.S.Sink.begins _ _ c.put_more.result _ _ (conditions_written c.args.table.now c.args.conditions.now _ _ c.in-Some.ensures.cases.0) done
