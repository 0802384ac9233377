use Rattle.std.proofs.Common.{ℕ, Bool, sym, ap, ◌∙◌, Some, None}
use Rattle.std.specs.Str.Parse.{digits_value}
use Rattle.sqlsyntax.specs.Shared.{minus}
use Rattle.sqlchecks.specs.Literals.{signed}
use Rattle.sqlchecks.proofs.Numbers.{none_big, some_is, big_refused, negative_is, positive_is}
use Rattle.sqlchecks.proofs.literal.signed.Goals as goal

pub returns-in_default : goal.returns-in_default
returns-in_default c =
    let value = digits_value 10 c.args.digits.digits.now in
    big_refused (minus c.args.negative) value (none_big value c.in_default.ensures)

pub returns-then-negative : goal.returns-then-negative
returns-then-negative c =
    let d = c.args.digits in
    let value = some_is c.in-Some.magnitude (digits_value 10 d.digits.now) c.in-Some.ensures in
    c.ok_or.ensures.value ∙ negative_is c.checked_sub_unsigned.result c.in-Some.magnitude c.checked_sub_unsigned.ensures
    ∙ ap (λ (n : ℕ). signed (Some tt) n) value ∙ ap (λ (b : Bool). signed (minus b) (digits_value 10 d.digits.now)) (sym c.if-negative.true)

pub returns : goal.returns
returns c =
    let d = c.args.digits in
    let value = some_is c.in-Some.magnitude (digits_value 10 d.digits.now) c.in-Some.ensures in
    c.ok_or-2.ensures.value ∙ positive_is c.checked_add_unsigned.result c.in-Some.magnitude c.checked_add_unsigned.ensures
    ∙ ap (λ (n : ℕ). signed None n) value ∙ ap (λ (b : Bool). signed (minus b) (digits_value 10 d.digits.now)) (sym c.if-negative.false)
