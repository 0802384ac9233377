use Rattle.std.proofs.Common.{◌∙◌, ◌++◌, ◌∷◌, [], map, ap, sym}
use Rattle.script.specs.Mail.{newly_sent, lost_first, messages_in}
use Rattle.script.proofs.Mailing.{still_added, lost_append}
use Rattle.script.proofs.mail.Mail.note.Goals as goal

pub invariant_of-self-in-Sent : goal.invariant_of-self-in-Sent
invariant_of-self-in-Sent c = still_added c.self.inside.all_lost c.self.inside.settled c.self.inside.sent.items _ _ c.in_ok-push-in-Sent.ensures.items c.self.invariant

pub returns-in_ok-push-in-Sent : goal.returns-in_ok-push-in-Sent
returns-in_ok-push-in-Sent c =
    let mail = c.self.inside in
    ap (lost_first mail.all_lost) c.in_ok-push-in-Sent.ensures.items ∙ lost_append mail.all_lost mail.sent.items _ c.self.invariant.0
    ∙ ap (λ ms. ms ++ newly_sent c.in-Sent.message ∷ []) c.self.view_is ∙ ap (λ o. c.args.self.now ++ map newly_sent (messages_in (o ∷ []))) (sym c.in-Sent.is)
