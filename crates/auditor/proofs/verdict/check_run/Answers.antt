use Rattle.std.proofs.Common.{rules, map}
use Rattle.std.specs.Prelude.{IfErr}
use Rattle.moments.specs.Behind.{Evidence}
use Rattle.moments.specs.Faults.{NoneAre}
use Rattle.auditor.specs.Joined.{Explains, IsFirst}
use Rattle.auditor.specs.Faults.{IsOrderFault, OfRun}
use Rattle.auditor.specs.View.{event_of}
use Rattle.auditor.proofs.Verdicts.{fault_told}
use Rattle.auditor.proofs.verdict.check_run.Goals as goal

pub returns-in_err-_events-clause-no : goal.returns-in_err-_events-clause-no
returns-in_err-_events-clause-no c =
    let r : Evidence = record { version = c.args.version; tables = c.args.schema.now; lives = c.args.lives.now; answers = c.args.answers.now } in
    let order : IfErr c.from_residual.result (IsOrderFault c.args.lives.now) = search rules in
    let none : IfErr c.from_residual.result (OfRun (λ _. NoneAre (Explains r))) = search rules in
    let first : IfErr c.from_residual.result (OfRun (IsFirst r)) = search rules in
    fault_told r c.from_residual.result order none first

pub returns-clause-yes : goal.returns-clause-yes
returns-clause-yes c = (c.in_ok-_events.ensures.rise, (map event_of c.in_ok-_events._events.items, c.in_ok-_events.ensures.ok, c.in_ok-_events.ensures.agree, c.in_ok-_events.ensures.upholds))
