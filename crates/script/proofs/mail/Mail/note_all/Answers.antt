use Rattle.std.proofs.Common.{rules, ◌<◌, length}
use Rattle.script.proofs.Mailing.{messages_more}
use Rattle.script.proofs.mail.Mail.note_all.Goals as goal

pub loop-output-preserved : goal.loop-output-preserved
loop-output-preserved c =
    let within : c.loop-output.output-index < length c.args.outputs.now = search rules in
    messages_more c.args.self.now c.loop-output.self c.note.new.self c.args.outputs.now c.loop-output.output-index c.output-item.result
    c.loop-output.invariant c.in_ok-note.ensures within c.output-item.is
