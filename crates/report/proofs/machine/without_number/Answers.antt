use Rattle.std.proofs.Common.{◌<◌, ◌∙◌, sym, ap, length, get_or, arith}
use Rattle.std.proofs.lemmas.Str.Pattern.{split_parts}
use Rattle.looks.proofs.Numbered.{two_digits, behind_blank}
use Rattle.report.proofs.machine.without_number.Goals as goal

pub returns-in-Some : goal.returns-in-Some
returns-in-Some c =
    let digits = two_digits c.args.refusal.now in
    let parts = split_parts 32 c.args.whole.now c.split_once.result c.split_once.ensures.cases (omega arith) in
    let cut = rw c.in-Some.is at parts in
    behind_blank digits.0 digits.1 _ _ _ digits.2 digits.3 cut.1 (sym digits.4 ∙ sym c.requires ∙ cut.0)

pub returns-in-None : goal.returns-in-None
returns-in-None c =
    let digits = two_digits c.args.refusal.now in
    let parts = split_parts 32 c.args.whole.now c.split_once.result c.split_once.ensures.cases (omega arith) in
    let none = rw c.in-None.is at parts in
    let is = c.requires ∙ digits.4 in
    let long : 2 < length c.args.whole.now = omega (arith, ap length is) in
    absurd (none 2 long (ap (λ l. get_or l 2 0) is))
