use Rattle.sqlread.proofs.Numbers.{unread_is}
use Rattle.sqlread.proofs.assignment.amount.Goals as goal

pub returns-in_default : goal.returns-in_default
returns-in_default c = unread_is c.args.digits.digits.now c.in_default.field-0 c.in_default.ensures.value.0 c.args.digits.some c.args.digits.all_digits
