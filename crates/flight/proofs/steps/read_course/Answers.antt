use Rattle.std.proofs.Common.{◌≡◌, ℕ, List, ◌++◌, ◌∷◌, [], length, ap, rules, arith}
use Rattle.std.specs.Prelude.{codes}
use Rattle.flight.specs.Spelling.{step_text, ending_text}
use Rattle.flight.specs.Ranges.{IsStep, IsEnding}
use Rattle.flight.specs.Courses.{IsNoOutcome}
use Rattle.flight.specs.Reading.{IsNotBegun}
use Rattle.flight.proofs.Lists.{until_more, until_broken, until_unread, until_only, until_whole}
use Rattle.flight.proofs.Lengths.{after_step}
use Rattle.flight.proofs.Stories.{step_begins, steps_no_outcome, ending_no_step}
use Rattle.flight.proofs.steps.read_course.Goals as goal

pub returns-in_err-step-clause-err : goal.returns-in_err-step-clause-err
returns-in_err-step-clause-err c =
    let begun : (r : List ℕ) × (c.loop-rest.rest.now ≡ codes "step " ++ r) = search rules in
    let unread = until_broken (IsStep c.args.version c.args.node) (step_text c.args.version) (codes "step ") IsNoOutcome (steps_no_outcome c.args.version) c.args.text.now c.loop-rest.steps.items c.loop-rest.rest.now (IsEnding c.args.version c.args.node) (ending_text c.args.version) (ending_no_step c.args.version)
    c.loop-rest.invariant.taken begun c.in_err-step.field-0.0 c.in_err-step.ensures.err in
    search (rules, unread)

pub loop-rest-preserved : goal.loop-rest-preserved
loop-rest-preserved c =
    let begun : (r : List ℕ) × (c.loop-rest.rest.now ≡ codes "step " ++ r) = search rules in
    let more = until_more (IsStep c.args.version c.args.node) (step_text c.args.version) (codes "step ") IsNoOutcome (steps_no_outcome c.args.version) c.args.text.now c.loop-rest.steps.items c.loop-rest.rest.now c.in_ok-step.step c.in_ok-step.left.now
    c.loop-rest.invariant.taken begun c.in_ok-step.ensures.ok c.in_ok-step.ensures.only in
    let items : c.push.new.self.items ≡ c.loop-rest.steps.items ++ c.in_ok-step.step ∷ [] = search rules in
    record { utf8 = search rules; taken = rw items more }

pub loop-rest-smaller : goal.loop-rest-smaller
loop-rest-smaller c =
    let long : length c.loop-rest.rest.now ≡ length (step_text c.args.version c.in_ok-step.step c.in_ok-step.left.now) = ap length c.in_ok-step.ensures.ok.1 in
    let longer = after_step c.args.version c.in_ok-step.step c.in_ok-step.left.now in
    omega (arith, long, longer)

pub returns-in_err-ending-clause-err : goal.returns-in_err-ending-clause-err
returns-in_err-ending-clause-err c =
    let over : IsNotBegun (codes "step ") c.loop-rest.rest.now = search rules in
    let unread = until_unread (IsStep c.args.version c.args.node) (step_text c.args.version) (codes "step ") IsNoOutcome (steps_no_outcome c.args.version) c.args.text.now c.loop-rest.steps.items c.loop-rest.rest.now (IsEnding c.args.version c.args.node) (ending_text c.args.version) (ending_no_step c.args.version)
    (step_begins c.args.version) c.loop-rest.invariant.taken over c.in_err-ending.field-0.0 c.in_err-ending.ensures.err in
    search (rules, unread)

pub returns-clause-ok : goal.returns-clause-ok
returns-clause-ok c =
    let over : IsNotBegun (codes "step ") c.loop-rest.rest.now = search rules in
    until_whole (IsStep c.args.version c.args.node) (step_text c.args.version) (codes "step ") IsNoOutcome (steps_no_outcome c.args.version) c.args.text.now c.loop-rest.steps.items c.loop-rest.rest.now (IsEnding c.args.version c.args.node) (ending_text c.args.version) (ending_no_step c.args.version)
    (step_begins c.args.version) c.loop-rest.invariant.taken over c.in_ok-ending.ending c.in_ok-ending.rest.now c.in_ok-ending.ensures.ok

pub returns-clause-only : goal.returns-clause-only
returns-clause-only c =
    let over : IsNotBegun (codes "step ") c.loop-rest.rest.now = search rules in
    until_only (IsStep c.args.version c.args.node) (step_text c.args.version) (codes "step ") IsNoOutcome (steps_no_outcome c.args.version) c.args.text.now c.loop-rest.steps.items c.loop-rest.rest.now (IsEnding c.args.version c.args.node) (ending_text c.args.version) (ending_no_step c.args.version)
    (step_begins c.args.version) c.loop-rest.invariant.taken over c.in_ok-ending.ending c.in_ok-ending.rest.now c.in_ok-ending.ensures.only
