use Rattle.std.proofs.Common.{map, codes}
use Rattle.namesyntax.specs.Names.{name_list}
use Rattle.sqlsyntax.specs.Transactions.{literals}
use Rattle.sqlread.specs.Shapes.{insert_of}
use Rattle.rowtext.specs.Spacing.{Start, line}
use Rattle.rowtext.specs.Transactions.{column_name, cell_of, given_columns}
use Rattle.rowtext.proofs.Statements.{insert_written}
use Rattle.answertext.proofs.Putting.{after, puts_same, fault_in}
use Rattle.rowtext.proofs.transactions.put_insert.Goals as goal

pub returns-in_err-put : goal.returns-in_err-put
returns-in_err-put g c =
    let table = c.args.table.now in
    let names = map (column_name table) (given_columns table) in
    let cells = map (cell_of table (insert_of c.args.insert.now)) (given_columns table) in
    fault_in g.S.Sink.takes g.S.Sink.begins _ _ c.from_residual.result _ _ c.from_residual.ensures.0 (insert_written c.args.name.now names cells)
    (g.met.S.Sink.longer _ _ _ (codes ");\n") (g.met.S.Sink.longer _ _ _ (line Start (literals.spell cells)) (g.met.S.Sink.longer _ _ _ (codes ") VALUES (") (g.met.S.Sink.longer _ _ _ (line Start (name_list.spell names)) (c.in_err-put.ensures)))))

pub returns-in_err-put_columns : goal.returns-in_err-put_columns
returns-in_err-put_columns g c =
    let table = c.args.table.now in
    let names = map (column_name table) (given_columns table) in
    let cells = map (cell_of table (insert_of c.args.insert.now)) (given_columns table) in
    fault_in g.S.Sink.takes g.S.Sink.begins _ _ c.from_residual-in_err-put_columns.result _ _ c.from_residual-in_err-put_columns.ensures.0 (insert_written c.args.name.now names cells)
    (g.met.S.Sink.longer _ _ _ (codes ");\n") (g.met.S.Sink.longer _ _ _ (line Start (literals.spell cells)) (g.met.S.Sink.longer _ _ _ (codes ") VALUES (") (g.met.S.Sink.then_begins _ _ _ _ _ (c.in_ok-put.ensures) (c.in_err-put_columns.ensures)))))

pub returns-in_err-put-2 : goal.returns-in_err-put-2
returns-in_err-put-2 g c =
    let table = c.args.table.now in
    let names = map (column_name table) (given_columns table) in
    let cells = map (cell_of table (insert_of c.args.insert.now)) (given_columns table) in
    fault_in g.S.Sink.takes g.S.Sink.begins _ _ c.from_residual-in_err-put-2.result _ _ c.from_residual-in_err-put-2.ensures.0 (insert_written c.args.name.now names cells)
    (g.met.S.Sink.longer _ _ _ (codes ");\n") (g.met.S.Sink.longer _ _ _ (line Start (literals.spell cells)) (g.met.S.Sink.then_begins _ _ _ _ _ (g.met.S.Sink.then_takes _ _ _ _ _ (c.in_ok-put.ensures) (c.in_ok-put_columns.ensures)) (c.in_err-put-2.ensures))))

pub returns-in_err-put_row : goal.returns-in_err-put_row
returns-in_err-put_row g c =
    let table = c.args.table.now in
    let names = map (column_name table) (given_columns table) in
    let cells = map (cell_of table (insert_of c.args.insert.now)) (given_columns table) in
    fault_in g.S.Sink.takes g.S.Sink.begins _ _ c.from_residual-in_err-put_row.result _ _ c.from_residual-in_err-put_row.ensures.0 (insert_written c.args.name.now names cells)
    (g.met.S.Sink.longer _ _ _ (codes ");\n") (g.met.S.Sink.then_begins _ _ _ _ _ (g.met.S.Sink.then_takes _ _ _ _ _ (g.met.S.Sink.then_takes _ _ _ _ _ (c.in_ok-put.ensures) (c.in_ok-put_columns.ensures)) (c.in_ok-put-2.ensures)) (c.in_err-put_row.ensures)))

pub returns : goal.returns
returns g c =
    let table = c.args.table.now in
    let names = map (column_name table) (given_columns table) in
    let cells = map (cell_of table (insert_of c.args.insert.now)) (given_columns table) in
    let before = g.met.S.Sink.then_takes _ _ _ _ _ (g.met.S.Sink.then_takes _ _ _ _ _ (g.met.S.Sink.then_takes _ _ _ _ _ (c.in_ok-put.ensures) (c.in_ok-put_columns.ensures)) (c.in_ok-put-2.ensures)) (c.in_ok-put_row.ensures) in
    let done = after c.put-3.result _ _ _ _ c.put-3.ensures (λ t. g.met.S.Sink.then_takes _ _ _ _ _ before t) (λ t. g.met.S.Sink.then_begins _ _ _ _ _ before t) in
    puts_same g.S.Sink.takes g.S.Sink.begins _ _ c.put-3.result _ _ (insert_written c.args.name.now names cells) done
