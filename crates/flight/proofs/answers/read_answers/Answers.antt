use Rattle.std.proofs.Common.{◌≡◌, ℕ, List, ◌++◌, ◌∷◌, [], length, ap, rules, arith}
use Rattle.std.specs.Prelude.{codes, ⊤}
use Rattle.flight.specs.Spelling.{answer_text}
use Rattle.flight.specs.Ranges.{IsAnswer}
use Rattle.flight.specs.Reading.{IsNotBegun}
use Rattle.flight.proofs.Lists.{until_more, only_to}
use Rattle.flight.proofs.Lengths.{after_answer}
use Rattle.flight.proofs.Stories.{answers_broken, answers_unended, answers_only, answers_whole}
use Rattle.flight.proofs.answers.read_answers.Goals as goal

pub returns-in_err-answer-clause-err : goal.returns-in_err-answer-clause-err
returns-in_err-answer-clause-err c =
    let begun : (r : List ℕ) × (c.loop-alloc.rest.now ≡ codes "answer " ++ r) = search rules in
    let unread = answers_broken (IsAnswer c.args.schema.now) c.args.text.now c.loop-alloc.answers.items c.loop-alloc.rest.now c.loop-alloc.invariant.taken begun c.in_err-answer.field-0.0 c.in_err-answer.ensures.err in
    search (rules, unread)

pub loop-alloc-preserved : goal.loop-alloc-preserved
loop-alloc-preserved c =
    let begun : (r : List ℕ) × (c.loop-alloc.rest.now ≡ codes "answer " ++ r) = search rules in
    let more = until_more (IsAnswer c.args.schema.now) answer_text (codes "answer ") (λ _. ⊤) (λ ys other free. tt) c.args.text.now c.loop-alloc.answers.items c.loop-alloc.rest.now c.in_ok-answer.answer c.in_ok-answer.left.now
    c.loop-alloc.invariant.taken begun c.in_ok-answer.ensures.ok (only_to (IsAnswer c.args.schema.now) answer_text c.loop-alloc.rest.now c.in_ok-answer.answer c.in_ok-answer.left.now c.in_ok-answer.ensures.only) in
    let items : c.push.new.self.items ≡ c.loop-alloc.answers.items ++ c.in_ok-answer.answer ∷ [] = search rules in
    record { utf8 = search rules; taken = rw items more }

pub loop-alloc-smaller : goal.loop-alloc-smaller
loop-alloc-smaller c =
    let long : length c.loop-alloc.rest.now ≡ length (answer_text c.in_ok-answer.answer c.in_ok-answer.left.now) = ap length c.in_ok-answer.ensures.ok.1 in
    let longer = after_answer c.in_ok-answer.answer c.in_ok-answer.left.now in
    omega (arith, long, longer)

pub returns-in_err-rest-clause-err : goal.returns-in_err-rest-clause-err
returns-in_err-rest-clause-err c =
    let over : IsNotBegun (codes "answer ") c.loop-alloc.rest.now = search rules in
    let unread = answers_unended (IsAnswer c.args.schema.now) c.args.text.now c.loop-alloc.answers.items c.loop-alloc.rest.now c.loop-alloc.invariant.taken over c.in_err-rest.field-0.0 c.in_err-rest.ensures.err.0 c.in_err-rest.ensures.err.1 in
    search (rules, unread)

pub returns-clause-ok : goal.returns-clause-ok
returns-clause-ok c =
    let over : IsNotBegun (codes "answer ") c.loop-alloc.rest.now = search rules in
    answers_whole (IsAnswer c.args.schema.now) c.args.text.now c.loop-alloc.answers.items c.loop-alloc.rest.now c.loop-alloc.invariant.taken over c.in_ok-rest.rest.now c.in_ok-rest.ensures.ok

pub returns-clause-only : goal.returns-clause-only
returns-clause-only c =
    let over : IsNotBegun (codes "answer ") c.loop-alloc.rest.now = search rules in
    answers_only (IsAnswer c.args.schema.now) c.args.text.now c.loop-alloc.answers.items c.loop-alloc.rest.now c.loop-alloc.invariant.taken over c.in_ok-rest.rest.now c.in_ok-rest.ensures.ok
