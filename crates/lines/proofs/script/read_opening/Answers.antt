use Rattle.std.proofs.Common.{rules, refl, ◌≡◌, ◌≢◌}
use Rattle.std.specs.Prelude.{codes}
use Rattle.lines.proofs.Scripts.{second_missing, second_wrong, opening_of}
use Rattle.lines.proofs.script.read_opening.Goals as goal

pub returns-in_err-line-2-clause-err : goal.returns-in_err-line-2-clause-err
returns-in_err-line-2-clause-err c =
    let opens = rw c.requires.whole at c.in_ok-line.ensures.line in
    let fault = second_missing c.args.rest.text.now c.in_ok-line.line.now c.in_ok-line.rest.text.now c.in_ok-line.rest.number opens c.in-Some.members c.in-Some.ensures.some.0 c.in-Some.ensures.some.1
    c.in_err-line-2.field-0.0 c.in_err-line-2.ensures.err in
    search (rules, fault)

pub returns-then-ne-clause-err : goal.returns-then-ne-clause-err
returns-then-ne-clause-err c =
    let opens = rw c.requires.whole at c.in_ok-line.ensures.line in
    let other : c.in_ok-line-2.line.now ≢ codes "schema" = search rules in
    let bad = second_wrong c.args.rest.text.now c.in_ok-line.line.now c.in_ok-line.rest.text.now c.in_ok-line.rest.number opens c.in-Some.members c.in-Some.ensures.some.0 c.in-Some.ensures.some.1
    c.in_ok-line-2.rest.number c.in_ok-line-2.line.now c.in_ok-line-2.rest.text.now c.in_ok-line-2.ensures.line other in
    (c.in_ok-line-2.rest.number, refl, bad)

pub returns-clause-opening : goal.returns-clause-opening
returns-clause-opening c =
    let opens = rw c.requires.whole at c.in_ok-line.ensures.line in
    let names : c.in_ok-line-2.line.now ≡ codes "schema" = search rules in
    opening_of c.args.rest.text.now c.in_ok-line.line.now c.in_ok-line.rest.text.now c.in_ok-line.rest.number opens c.in-Some.members c.in-Some.ensures.some.0 c.in-Some.ensures.some.1
    c.in_ok-line-2.rest.number c.in_ok-line-2.line.now c.in_ok-line-2.rest.text.now c.in_ok-line-2.ensures.line names
