use Rattle.std.proofs.Common.{arith, ◌≡◌, length}
use Rattle.script.proofs.Mailing.{seen_length, zeroth, past}
use Rattle.script.proofs.mail.Mail.place_of.Goals.{then-number-lt1-via-then-number-lt1, then-number-lt1-via-else-number-lt1+then-number-len}
use Rattle.script.proofs.mail.Mail.place_of.Goals as goal

pub returns-then-number-lt1-clause-none : goal.returns-then-number-lt1-clause-none
returns-then-number-lt1-clause-none c =
    let same : length c.self.inside.sent.items ≡ length c.args.self.now = seen_length c.self.inside.all_lost c.self.inside.sent.items c.args.self.now c.self.view_is in
    elim c.then-number-lt1.branch [
      | then-number-lt1-via-then-number-lt1 w ↦ zeroth c.args.self.now c.args.number w.if-number-lt1.true
      | then-number-lt1-via-else-number-lt1+then-number-len w ↦ past c.args.self.now c.args.number (omega (arith, same, w.len.ensures, w.if-number-len.true))
    ]

pub returns-clause-some : goal.returns-clause-some
returns-clause-some c =
    let same : length c.self.inside.sent.items ≡ length c.args.self.now = seen_length c.self.inside.all_lost c.self.inside.sent.items c.args.self.now c.self.view_is in
    (omega (arith, c.if-number-lt1.false), omega (arith, same, c.len.ensures, c.if-number-lt1.false, c.if-number-len.false))
