use Rattle.std.proofs.Common.{rules}
use Rattle.flight.proofs.Tellings.{step_unmade, step_untold, step_only}
use Rattle.flight.proofs.steps.read_step.Goals as goal

pub returns-in_err-step-clause-err : goal.returns-in_err-step-clause-err
returns-in_err-step-clause-err c =
    let unread = step_unmade c.args.version c.args.node c.args.text.now c.in_ok-rest.rest.now c.in_ok-rest.ensures.ok c.in_err-step.field-0.0 c.in_err-step.ensures.err in
    search (rules, unread)

pub returns-in_err-outcomes-clause-err : goal.returns-in_err-outcomes-clause-err
returns-in_err-outcomes-clause-err c =
    let unread = step_untold c.args.version c.args.node c.args.text.now c.in_ok-rest.rest.now c.in_ok-rest.ensures.ok c.in_ok-step.step c.in_ok-step.rest.now c.in_ok-step.ensures.only c.in_err-outcomes.field-0.0 c.in_err-outcomes.ensures.err in
    search (rules, unread)

pub returns-clause-only : goal.returns-clause-only
returns-clause-only c =
    let only = step_only c.args.version c.args.node c.args.text.now c.in_ok-rest.rest.now c.in_ok-rest.ensures.ok c.in_ok-step.step c.in_ok-step.rest.now c.in_ok-step.ensures.only c.in_ok-outcomes.outcomes c.in_ok-outcomes.rest.now c.in_ok-outcomes.ensures.only in
    search (rules, only)
