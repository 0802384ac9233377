use Rattle.rowtext.proofs.Statements.{insert_statement, update_statement, delete_statement}
use Rattle.answertext.proofs.Putting.{puts_same}
use Rattle.rowtext.proofs.transactions.put_statement.Goals as goal

pub returns-in-Insert : goal.returns-in-Insert
returns-in-Insert g c =
    puts_same g.S.Sink.takes g.S.Sink.begins _ _ c.put_insert.result _ _
    (insert_statement c.args.schema.now c.args.statement.now c.in-Insert.insert _ _ _ c.in-Insert.is c.table-place.ensures c.table.ensures.table) c.put_insert.ensures

pub returns-in-Update : goal.returns-in-Update
returns-in-Update g c =
    puts_same g.S.Sink.takes g.S.Sink.begins _ _ c.put_update.result _ _
    (update_statement c.args.schema.now c.args.statement.now c.in-Update.update _ _ _ c.in-Update.is c.table-place.ensures c.table.ensures.table) c.put_update.ensures

pub returns-in-Delete : goal.returns-in-Delete
returns-in-Delete g c =
    puts_same g.S.Sink.takes g.S.Sink.begins _ _ c.put_delete.result _ _
    (delete_statement c.args.schema.now c.args.statement.now c.in-Delete.delete _ _ _ c.in-Delete.is c.table-place.ensures c.table.ensures.table) c.put_delete.ensures
