use Rattle.rowtext.proofs.Values.{set_written, plus_written, less_written}
use Rattle.answertext.proofs.Putting.{puts_same}
use Rattle.rowtext.proofs.transactions.AssignmentPart.put.Goals as goal

pub returns-in-Literal : goal.returns-in-Literal
returns-in-Literal g c =
    let name = rw c.in_ok-name.ensures.ok_part at c.field_name.ensures.name in
    puts_same g.S.Sink.takes g.S.Sink.begins _ _ c.put.result _ _ (set_written c.args.table.now c.args.self.now _ _ name c.in-Literal.is) c.put.ensures

pub returns-in-Plus : goal.returns-in-Plus
returns-in-Plus g c =
    let name = rw c.in_ok-name.ensures.ok_part at c.field_name.ensures.name in
    puts_same g.S.Sink.takes g.S.Sink.begins _ _ c.put-in-Plus.result _ _ (plus_written c.args.table.now c.args.self.now _ _ name c.in-Plus.is) c.put-in-Plus.ensures

pub returns-in-Minus : goal.returns-in-Minus
returns-in-Minus g c =
    let name = rw c.in_ok-name.ensures.ok_part at c.field_name.ensures.name in
    puts_same g.S.Sink.takes g.S.Sink.begins _ _ c.put-in-Minus.result _ _ (less_written c.args.table.now c.args.self.now _ _ name c.in-Minus.is) c.put-in-Minus.ensures
