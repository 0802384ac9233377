use Rattle.std.proofs.Common.{rules}
use Rattle.flight.proofs.Messages.{delivery_unread, delivery_only}
use Rattle.flight.proofs.packets.read_delivery.Goals as goal

pub returns-in_err-term-clause-err : goal.returns-in_err-term-clause-err
returns-in_err-term-clause-err c =
    let unread = delivery_unread c.args.version c.args.node c.args.text.now c.in_ok-sender.sender c.in_ok-sender.rest.now c.in_ok-mark.mark c.in_ok-mark.rest.now c.in_ok-sender.ensures.only c.in_ok-mark.ensures.only c.in_err-term.field-0.0 c.in_err-term.ensures.err in
    search (rules, unread)

pub returns-clause-only : goal.returns-clause-only
returns-clause-only c =
    delivery_only c.args.version c.args.node c.args.text.now c.in_ok-sender.sender c.in_ok-sender.rest.now c.in_ok-mark.mark c.in_ok-mark.rest.now c.in_ok-sender.ensures.only c.in_ok-mark.ensures.only c.in_ok-term.term c.in_ok-term.body c.in_ok-term.rest.now c.in_ok-term.ensures.only
