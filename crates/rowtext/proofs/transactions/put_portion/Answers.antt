use Rattle.rowtext.proofs.Statements.{portion_written}
use Rattle.answertext.proofs.Putting.{puts_same}
use Rattle.rowtext.proofs.transactions.put_portion.Goals as goal

pub returns-in-Some : goal.returns-in-Some
returns-in-Some g c =
    puts_same g.S.Sink.takes g.S.Sink.begins _ _ c.put.result _ _
    (portion_written c.args.table.now c.args.portion c.in-Some.period _ c.in-Some.is c.period-name.ensures) c.put.ensures
