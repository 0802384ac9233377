use Rattle.std.proofs.Common.{◌∙◌}
use Rattle.rowtext.proofs.Values.{start_written, end_written}
use Rattle.answertext.proofs.Putting.{puts_same}
use Rattle.sqlread.specs.Shapes.{insert_of}
use Rattle.rowtext.proofs.transactions.put_cell.Goals as goal

pub returns-then-column-start : goal.returns-then-column-start
returns-then-column-start g c =
    puts_same g.S.Sink.takes g.S.Sink.begins _ _ c.put.result _ _
    (start_written c.args.table.now (insert_of c.args.insert.now) c.args.column (c.if-column-start.true ∙ c.start.ensures)) c.put.ensures

pub returns-then-column-end : goal.returns-then-column-end
returns-then-column-end g c =
    puts_same g.S.Sink.takes g.S.Sink.begins _ _ c.put-then-column-end.result _ _
    (end_written c.args.table.now (insert_of c.args.insert.now) c.args.column (rw c.start.ensures at c.if-column-start.false) (c.if-column-end.true ∙ c.end.ensures)) c.put-then-column-end.ensures
