use Rattle.std.proofs.Common.{arith, ◌≡◌, ◌∙◌, length}
use Rattle.script.proofs.Mailing.{seen_length}
use Rattle.script.proofs.mail.Mail.len.Goals as goal

pub returns : goal.returns
returns c =
    let all : c.len.result ≡ length c.self.inside.sent.items = omega (arith, c.len.ensures) in
    all ∙ seen_length c.self.inside.all_lost c.self.inside.sent.items c.args.self.now c.self.view_is
