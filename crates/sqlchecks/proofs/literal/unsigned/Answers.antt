use Rattle.std.proofs.Common.{◌∙◌}
use Rattle.sqlchecks.proofs.Numbers.{unsigned_is}
use Rattle.sqlchecks.proofs.literal.unsigned.Goals as goal

pub returns : goal.returns
returns c = c.ok.ensures.value ∙ unsigned_is c.args.digits.digits.now c.parse.result c.args.digits.some c.args.digits.all_digits c.parse.ensures.value.0
