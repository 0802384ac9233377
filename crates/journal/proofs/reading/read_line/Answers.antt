use Rattle.std.proofs.Common.{rules, ℕ, List}
use Rattle.std.specs.Prelude.{codes}
use Rattle.flight.specs.Courses.{IsNoOutcome}
use Rattle.flight.specs.declared.outcome.Outcome.{Outcome}
use Rattle.journal.specs.declared.line.Taken.{Taken}
use Rattle.journal.specs.declared.line.Line.{Line}
use Rattle.journal.specs.declared.line.Line.TheVariants.{Opens, Takes, Made, Answer, Printed}
use Rattle.journal.specs.Spelling.{line_text}
use Rattle.journal.specs.Ranges.{IsLine}
use Rattle.journal.specs.Parts.{opens_text, takes_text, made_text, answer_text, printed_text, IsOpens, IsTakes, IsMade, IsAnswered, IsPrinted}
use Rattle.journal.proofs.Choices.{case_only_to, case_unread_to, case_only_before, case_unread_before}
use Rattle.journal.proofs.Words.{opens_of, takes_of, made_of, answer_of, printed_of}
use Rattle.journal.proofs.reading.read_line.Goals as goal

abbrev takes : ℕ × Taken → Line
takes v = Takes v.0 v.1

pub returns-in_err-member-clause-err : goal.returns-in_err-member-clause-err
returns-in_err-member-clause-err c =
    let unread = case_unread_before (codes "takes ") takes IsTakes takes_text IsLine line_text IsNoOutcome takes_of c.args.text.now c.in-Some.rest.now c.in-Some.ensures.some.0 c.in_err-member.field-0.0 c.in_err-member.ensures.err in
    search (rules, unread)

pub returns-in-Some-clause-only : goal.returns-in-Some-clause-only
returns-in-Some-clause-only c =
    case_only_before (codes "takes ") takes IsTakes takes_text IsLine line_text IsNoOutcome takes_of c.args.text.now c.in-Some.rest.now c.in-Some.ensures.some.0 (c.in_ok-member.member, c.in_ok-member.taken) c.in_ok-member.rest.now c.in_ok-member.ensures.only

abbrev made : ℕ × List Outcome → Line
made v = Made v.0 v.1

pub returns-in_err-member-2-clause-err : goal.returns-in_err-member-2-clause-err
returns-in_err-member-2-clause-err c =
    let unread = case_unread_to (codes "made ") made IsMade made_text IsLine line_text IsNoOutcome made_of c.args.text.now c.in-Some-after.rest.now c.in-Some-after.ensures.some.0 c.in_err-member-2.field-0.0 c.in_err-member-2.ensures.err in
    search (rules, unread)

pub returns-in-Some-after-clause-only : goal.returns-in-Some-after-clause-only
returns-in-Some-after-clause-only c =
    case_only_to (codes "made ") made IsMade made_text IsLine line_text IsNoOutcome made_of c.args.text.now c.in-Some-after.rest.now c.in-Some-after.ensures.some.0 (c.in_ok-member-2.member, c.in_ok-member-2.outcomes) c.in_ok-member-2.rest.now c.in_ok-member-2.ensures.only

abbrev printed : ℕ × ℕ × List ℕ → Line
printed v = Printed v.0 v.1 v.2

pub returns-in_err-client-clause-err : goal.returns-in_err-client-clause-err
returns-in_err-client-clause-err c =
    let unread = case_unread_before (codes "printed ") printed IsPrinted printed_text IsLine line_text IsNoOutcome printed_of c.args.text.now c.in-Some-after-2.rest.now c.in-Some-after-2.ensures.some.0 c.in_err-client.field-0.0 c.in_err-client.ensures.err in
    search (rules, unread)

pub returns-in-Some-after-2-clause-only : goal.returns-in-Some-after-2-clause-only
returns-in-Some-after-2-clause-only c =
    case_only_before (codes "printed ") printed IsPrinted printed_text IsLine line_text IsNoOutcome printed_of c.args.text.now c.in-Some-after-2.rest.now c.in-Some-after-2.ensures.some.0 (c.in_ok-client.client, c.in_ok-client.number, c.in_ok-client.words) c.in_ok-client.rest.now c.in_ok-client.ensures.only

abbrev answer : ℕ × List ℕ × List ℕ → Line
answer v = Answer v.0 v.1 v.2

pub returns-in_err-member-3-clause-err : goal.returns-in_err-member-3-clause-err
returns-in_err-member-3-clause-err c =
    let unread = case_unread_before (codes "answer ") answer IsAnswered answer_text IsLine line_text IsNoOutcome answer_of c.args.text.now c.in-Some-after-3.rest.now c.in-Some-after-3.ensures.some.0 c.in_err-member-3.field-0.0 c.in_err-member-3.ensures.err in
    search (rules, unread)

pub returns-in-Some-after-3-clause-only : goal.returns-in-Some-after-3-clause-only
returns-in-Some-after-3-clause-only c =
    case_only_before (codes "answer ") answer IsAnswered answer_text IsLine line_text IsNoOutcome answer_of c.args.text.now c.in-Some-after-3.rest.now c.in-Some-after-3.ensures.some.0 (c.in_ok-member-3.member, c.in_ok-member-3.query, c.in_ok-member-3.answer) c.in_ok-member-3.rest.now c.in_ok-member-3.ensures.only

abbrev opens : ℕ × ℕ × ℕ → Line
opens v = Opens v.0 v.1 v.2

pub returns-in_err-journal-clause-err : goal.returns-in_err-journal-clause-err
returns-in_err-journal-clause-err c =
    let unread = case_unread_before (codes "opens ") opens IsOpens opens_text IsLine line_text IsNoOutcome opens_of c.args.text.now c.in-Some-after-4.rest.now c.in-Some-after-4.ensures.some.0 c.in_err-journal.field-0.0 c.in_err-journal.ensures.err in
    search (rules, unread)

pub returns-in-Some-after-4-clause-only : goal.returns-in-Some-after-4-clause-only
returns-in-Some-after-4-clause-only c =
    case_only_before (codes "opens ") opens IsOpens opens_text IsLine line_text IsNoOutcome opens_of c.args.text.now c.in-Some-after-4.rest.now c.in-Some-after-4.ensures.some.0 (c.in_ok-journal.journal, c.in_ok-journal.sum, c.in_ok-journal.marks) c.in_ok-journal.rest.now c.in_ok-journal.ensures.only
