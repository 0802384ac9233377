use Rattle.std.proofs.Common.{rules}
use Rattle.flight.proofs.Messages.{voted_unread, voted_only}
use Rattle.flight.proofs.bodies.read_voted.Goals as goal

pub returns-in_err-given-clause-err : goal.returns-in_err-given-clause-err
returns-in_err-given-clause-err c =
    let unread = voted_unread c.args.version c.args.text.now c.in_ok-term.term c.in_ok-term.rest.now c.in_ok-term.ensures.only c.in_err-given.field-0.0 c.in_err-given.ensures.err in
    search (rules, unread)

pub returns-clause-only : goal.returns-clause-only
returns-clause-only c =
    voted_only c.args.version c.args.text.now c.in_ok-term.term c.in_ok-term.rest.now c.in_ok-term.ensures.only c.in_ok-given.given c.in_ok-given.floor c.in_ok-given.rest.now c.in_ok-given.ensures.only
