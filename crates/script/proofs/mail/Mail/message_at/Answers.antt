use Rattle.std.proofs.Common.{arith, ◌≡◌, ◌<◌, length, Some, subst}
use Rattle.std.specs.Prelude.{slice_get}
use Rattle.script.specs.Mail.{as_lost}
use Rattle.script.proofs.Mailing.{seen_length, lost_at, kept_at}
use Rattle.script.proofs.mail.Mail.message_at.Goals as goal

pub index-message-requires : goal.index-message-requires
index-message-requires c = omega (arith, c.requires, seen_length c.self.inside.all_lost c.self.inside.sent.items c.args.self.now c.self.view_is)

pub returns-then-place-self-clause-message : goal.returns-then-place-self-clause-message
returns-then-place-self-clause-message c =
    let within : c.args.place < length c.self.inside.sent.items = omega (arith, c.requires, seen_length c.self.inside.all_lost c.self.inside.sent.items c.args.self.now c.self.view_is) in
    subst (λ ys. slice_get ys c.args.place ≡ Some (as_lost c.index-message.result.now)) c.self.view_is
    (lost_at c.self.inside.all_lost c.args.place c.self.inside.sent.items c.index-message.result.now c.index-message.ensures within c.if-place-self.true)

pub returns-else-place-self-clause-message : goal.returns-else-place-self-clause-message
returns-else-place-self-clause-message c =
    let within : c.args.place < length c.self.inside.sent.items = omega (arith, c.requires, seen_length c.self.inside.all_lost c.self.inside.sent.items c.args.self.now c.self.view_is) in
    subst (λ ys. slice_get ys c.args.place ≡ Some c.index-message.result.now) c.self.view_is
    (kept_at c.self.inside.all_lost c.args.place c.self.inside.sent.items c.index-message.result.now c.index-message.ensures within c.if-place-self.false)

pub returns-then-place-self-clause-number : goal.returns-then-place-self-clause-number
returns-then-place-self-clause-number c =
    let sent = c.self.inside.sent in
    omega (arith, c.requires, seen_length c.self.inside.all_lost sent.items c.args.self.now c.self.view_is, sent.ok.0, sent.ok.1, sent.small)

pub returns-else-place-self-clause-number : goal.returns-else-place-self-clause-number
returns-else-place-self-clause-number c =
    let sent = c.self.inside.sent in
    omega (arith, c.requires, seen_length c.self.inside.all_lost sent.items c.args.self.now c.self.view_is, sent.ok.0, sent.ok.1, sent.small)
