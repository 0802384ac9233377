use Rattle.std.proofs.Common.{rules}
use Rattle.flight.specs.Contents.{in_opening}
use Rattle.flight.proofs.Openings.{life_unread, life_only}
use Rattle.flight.proofs.lives.read_life.Goals as goal

pub returns-in_err-steps-clause-err : goal.returns-in_err-steps-clause-err
returns-in_err-steps-clause-err c =
    let unread = life_unread c.args.version c.args.node c.args.text.now (in_opening c.in_ok-opening.opening) c.in_ok-opening.rest.now c.in_ok-opening.ensures.only c.in_err-steps.field-0.0 c.in_err-steps.ensures.err in
    search (rules, unread)

pub returns-clause-only : goal.returns-clause-only
returns-clause-only c =
    life_only c.args.version c.args.node c.args.text.now (in_opening c.in_ok-opening.opening) c.in_ok-opening.rest.now c.in_ok-opening.ensures.only c.in_ok-steps.steps.items c.in_ok-steps.ending c.in_ok-steps.rest.now c.in_ok-steps.ensures.only
