use Rattle.std.proofs.Common.{rules, ℕ}
use Rattle.std.specs.Prelude.{codes}
use Rattle.journal.specs.declared.stored.Summary.{Summary}
use Rattle.journal.specs.declared.line.Line.{Line}
use Rattle.journal.specs.declared.line.Line.TheVariants.{Rests, Life, Saves}
use Rattle.journal.specs.Spelling.{line_text}
use Rattle.journal.specs.Parts.{held_text, IsHeld, IsOther}
use Rattle.flight.proofs.Choices.{case_only, case_unread}
use Rattle.journal.proofs.Words.{rests_of, life_of, saves_of}
use Rattle.journal.proofs.reading.read_other.Goals as goal

abbrev rests : ℕ × Summary → Line
rests v = Rests v.0 v.1

abbrev life : ℕ × Summary → Line
life v = Life v.0 v.1

abbrev saves : ℕ × Summary → Line
saves v = Saves v.0 v.1

pub returns-in_err-member-2-clause-err : goal.returns-in_err-member-2-clause-err
returns-in_err-member-2-clause-err c =
    let unread = case_unread (codes "rests ") rests IsHeld held_text IsOther line_text rests_of c.args.text.now c.in-Some-after-2.rest.now c.in-Some-after-2.ensures.some.0 c.in_err-member-2.field-0.0 c.in_err-member-2.ensures.err in
    search (rules, unread)

pub returns-in-Some-after-2-clause-only : goal.returns-in-Some-after-2-clause-only
returns-in-Some-after-2-clause-only c =
    case_only (codes "rests ") rests IsHeld held_text IsOther line_text rests_of c.args.text.now c.in-Some-after-2.rest.now c.in-Some-after-2.ensures.some.0 (c.in_ok-member-2.member, c.in_ok-member-2.stored) c.in_ok-member-2.rest.now c.in_ok-member-2.ensures.only

pub returns-in_err-member-3-clause-err : goal.returns-in_err-member-3-clause-err
returns-in_err-member-3-clause-err c =
    let unread = case_unread (codes "life ") life IsHeld held_text IsOther line_text life_of c.args.text.now c.in-Some-after-3.rest.now c.in-Some-after-3.ensures.some.0 c.in_err-member-3.field-0.0 c.in_err-member-3.ensures.err in
    search (rules, unread)

pub returns-in-Some-after-3-clause-only : goal.returns-in-Some-after-3-clause-only
returns-in-Some-after-3-clause-only c =
    case_only (codes "life ") life IsHeld held_text IsOther line_text life_of c.args.text.now c.in-Some-after-3.rest.now c.in-Some-after-3.ensures.some.0 (c.in_ok-member-3.member, c.in_ok-member-3.stored) c.in_ok-member-3.rest.now c.in_ok-member-3.ensures.only

pub returns-in_err-member-4-clause-err : goal.returns-in_err-member-4-clause-err
returns-in_err-member-4-clause-err c =
    let unread = case_unread (codes "saves ") saves IsHeld held_text IsOther line_text saves_of c.args.text.now c.in_ok-rest.rest.now c.in_ok-rest.ensures.ok.0 c.in_err-member-4.field-0.0 c.in_err-member-4.ensures.err in
    search (rules, unread)

pub returns-clause-only : goal.returns-clause-only
returns-clause-only c =
    case_only (codes "saves ") saves IsHeld held_text IsOther line_text saves_of c.args.text.now c.in_ok-rest.rest.now c.in_ok-rest.ensures.ok.0 (c.in_ok-member-4.member, c.in_ok-member-4.stored) c.in_ok-member-4.rest.now c.in_ok-member-4.ensures.only
