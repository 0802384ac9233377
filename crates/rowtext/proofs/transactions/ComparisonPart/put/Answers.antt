use Rattle.rowtext.proofs.Values.{comparison_written}
use Rattle.answertext.proofs.Putting.{puts_same}
use Rattle.rowtext.proofs.transactions.ComparisonPart.put.Goals as goal

pub returns : goal.returns
returns g c =
    let name = rw c.in_ok-name.ensures.ok_part at c.field_name.ensures.name in
    puts_same g.S.Sink.takes g.S.Sink.begins _ _ c.put.result _ _
    (comparison_written c.args.table.now c.args.self.now _ _ name c.operator_text-operator.ensures) c.put.ensures
