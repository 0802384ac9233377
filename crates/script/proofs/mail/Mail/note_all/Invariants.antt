use Rattle.std.proofs.Common.{◌≡◌, ◌++◌, map, take}
use Rattle.script.specs.Mail.{newly_sent, messages_in}
use Rattle.script.proofs.mail.Mail.note_all.Given as goal

abbrev pub invariant-loop-output : goal.invariant-loop-output
invariant-loop-output l = l.self ≡ l.initial.self ++ map newly_sent (messages_in (take l.output-index l.outputs))
