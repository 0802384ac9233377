use Rattle.std.proofs.Common.{rules, arith, ◌≡◌, ◌∙◌, ◌+◌, ◌^◌, ◌<◌, pos, ap, sym, Some}
use Rattle.std.proofs.lemmas.Str.Pattern.{strip_prefix_char}
use Rattle.lines.proofs.Numbers.{below_zero, not_below_zero, never, same_some, converted}
use Rattle.lines.proofs.number.read_signed.Goals as goal

pub returns-in_err-read_number-in-Some-clause-every :
    goal.returns-in_err-read_number-in-Some-clause-every
returns-in_err-read_number-in-Some-clause-every c = λ z signed e.
    let minus = rw c.in-Some.is at (strip_prefix_char 45 c.args.word.now c.strip_prefix.result c.strip_prefix.ensures.cases (omega arith)) in
    let m = below_zero z c.args.word.now c.in-Some.digits.now signed minus e in
    let read = c.read_number.ensures.every (m.0 + 1) (omega (arith, m.1)) m.2 in
    absurd (never _ _ c.in_err-read_number-in-Some.was read)

pub returns-in_ok-read_number-in-Some-clause-every :
    goal.returns-in_ok-read_number-in-Some-clause-every
returns-in_ok-read_number-in-Some-clause-every c = λ z signed e.
    let minus = rw c.in-Some.is at (strip_prefix_char 45 c.args.word.now c.strip_prefix.result c.strip_prefix.ensures.cases (omega arith)) in
    let m = below_zero z c.args.word.now c.in-Some.digits.now signed minus e in
    let read = c.read_number.ensures.every (m.0 + 1) (omega (arith, m.1)) m.2 in
    let same = same_some _ _ _ c.in_ok-read_number-in-Some.was read in
    c.negative.ensures.every m.0 m.1 same ∙ ap Some (sym m.3)

pub returns-in_ok-read_number-in-None-clause-every :
    goal.returns-in_ok-read_number-in-None-clause-every
returns-in_ok-read_number-in-None-clause-every c = λ z signed e.
    let none = rw c.in-None.is at (strip_prefix_char 45 c.args.word.now c.strip_prefix.result c.strip_prefix.ensures.cases (omega arith)) in
    let m = not_below_zero z c.args.word.now signed none e in
    let read = c.read_number-in-None.ensures.every m.0 (omega (arith, m.1)) m.2 in
    let same = same_some _ _ _ c.in_ok-read_number-in-None.was read in
    let small : c.in_ok-read_number-in-None.field-0 < 2 ^ 63 = omega (arith, same, m.1) in
    let made = converted c.try_from.result _ _ c.try_from.ensures (search (rules, small)) in
    let given : c.ok.result ≡ Some (pos c.in_ok-read_number-in-None.field-0) = search rules in
    given ∙ ap (λ n. Some (pos n)) same ∙ ap Some (sym m.3)

pub returns-in_err-read_number-in-None-clause-every :
    goal.returns-in_err-read_number-in-None-clause-every
returns-in_err-read_number-in-None-clause-every c = λ z signed e.
    let none = rw c.in-None.is at (strip_prefix_char 45 c.args.word.now c.strip_prefix.result c.strip_prefix.ensures.cases (omega arith)) in
    let m = not_below_zero z c.args.word.now signed none e in
    let read = c.read_number-in-None.ensures.every m.0 (omega (arith, m.1)) m.2 in
    absurd (never _ _ c.in_err-read_number-in-None.was read)
