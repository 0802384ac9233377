use Rattle.std.proofs.Common.{codes}
use Rattle.std.specs.Prelude.{option_map}
use Rattle.phrase.specs.Grammar.{spell_some}
use Rattle.sqlsyntax.specs.Shared.{condition}
use Rattle.sqlsyntax.specs.Transactions.{portion}
use Rattle.sqlread.specs.Shapes.{delete_of}
use Rattle.rowtext.specs.Spacing.{Word, line}
use Rattle.rowtext.specs.Transactions.{portion_of, conditions_of}
use Rattle.rowtext.proofs.Statements.{delete_written}
use Rattle.answertext.proofs.Putting.{after, puts_same, fault_in}
use Rattle.rowtext.proofs.transactions.put_delete.Goals as goal

pub returns-in_err-put : goal.returns-in_err-put
returns-in_err-put g c =
    let table = c.args.table.now in
    let shape = delete_of c.args.delete.now in
    let within = option_map (portion_of table) shape.portion in
    let tests = conditions_of table shape.conditions in
    fault_in g.S.Sink.takes g.S.Sink.begins _ _ c.from_residual.result _ _ c.from_residual.ensures.0 (delete_written c.args.name.now within tests)
    (g.met.S.Sink.longer _ _ _ (codes ";\n") (g.met.S.Sink.longer _ _ _ (line Word (spell_some condition tests)) (g.met.S.Sink.longer _ _ _ (line Word (spell_some portion within)) (c.in_err-put.ensures))))

pub returns-in_err-put_portion : goal.returns-in_err-put_portion
returns-in_err-put_portion g c =
    let table = c.args.table.now in
    let shape = delete_of c.args.delete.now in
    let within = option_map (portion_of table) shape.portion in
    let tests = conditions_of table shape.conditions in
    fault_in g.S.Sink.takes g.S.Sink.begins _ _ c.from_residual-in_err-put_portion.result _ _ c.from_residual-in_err-put_portion.ensures.0 (delete_written c.args.name.now within tests)
    (g.met.S.Sink.longer _ _ _ (codes ";\n") (g.met.S.Sink.longer _ _ _ (line Word (spell_some condition tests)) (g.met.S.Sink.then_begins _ _ _ _ _ (c.in_ok-put.ensures) (c.in_err-put_portion.ensures))))

pub returns-in_err-put_conditions : goal.returns-in_err-put_conditions
returns-in_err-put_conditions g c =
    let table = c.args.table.now in
    let shape = delete_of c.args.delete.now in
    let within = option_map (portion_of table) shape.portion in
    let tests = conditions_of table shape.conditions in
    fault_in g.S.Sink.takes g.S.Sink.begins _ _ c.from_residual-in_err-put_conditions.result _ _ c.from_residual-in_err-put_conditions.ensures.0 (delete_written c.args.name.now within tests)
    (g.met.S.Sink.longer _ _ _ (codes ";\n") (g.met.S.Sink.then_begins _ _ _ _ _ (g.met.S.Sink.then_takes _ _ _ _ _ (c.in_ok-put.ensures) (c.in_ok-put_portion.ensures)) ((rw c.deref.ensures.value at c.in_err-put_conditions.ensures))))

pub returns : goal.returns
returns g c =
    let table = c.args.table.now in
    let shape = delete_of c.args.delete.now in
    let within = option_map (portion_of table) shape.portion in
    let tests = conditions_of table shape.conditions in
    let before = g.met.S.Sink.then_takes _ _ _ _ _ (g.met.S.Sink.then_takes _ _ _ _ _ (c.in_ok-put.ensures) (c.in_ok-put_portion.ensures)) ((rw c.deref.ensures.value at c.in_ok-put_conditions.ensures)) in
    let done = after c.put-2.result _ _ _ _ c.put-2.ensures (λ t. g.met.S.Sink.then_takes _ _ _ _ _ before t) (λ t. g.met.S.Sink.then_begins _ _ _ _ _ before t) in
    puts_same g.S.Sink.takes g.S.Sink.begins _ _ c.put-2.result _ _ (delete_written c.args.name.now within tests) done
