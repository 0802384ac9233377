use Rattle.std.proofs.Common.{◌≡◌, rules}
use Rattle.live.proofs.Copied.{same_body, sent_twice}
use Rattle.live.proofs.mail.Mail.send.Goals as goal

pub returns-in_ok-put-in-Twice-clause-sent : goal.returns-in_ok-put-in-Twice-clause-sent
returns-in_ok-put-in-Twice-clause-sent c =
    let body = same_body c.args.message.body c.in_ok-again-in-Twice.again.body c.in_ok-again-in-Twice.ensures.cases.1.1.1 in
    let same : c.in_ok-again-in-Twice.again ≡ c.args.message = search rules in
    sent_twice c.put-in-Twice-2.result c.args.self.now.letters.items c.put-in-Twice.new.self.letters.items c.put-in-Twice-2.new.self.letters.items
    c.args.mark c.args.message c.in_ok-again-in-Twice.again _ (search rules) same c.in_ok-put-in-Twice.ensures.put c.put-in-Twice-2.ensures.put
