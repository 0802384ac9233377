use Rattle.std.proofs.Common.{rules, inr}
use Rattle.flight.specs.Heads.{heading_text, IsHead}
use Rattle.flight.specs.Reading.{IsUnread}
use Rattle.flight.proofs.reading.read_head.Goals as goal

pub returns-in_err-rest-clause-err : goal.returns-in_err-rest-clause-err
returns-in_err-rest-clause-err c =
    let unread : IsUnread IsHead heading_text c.args.text.now c.in_err-rest.field-0.0 = inr (c.in_err-rest.ensures.err.0, λ w other is e. c.in_err-rest.ensures.err.1 _ e) in
    search (rules, unread)
