use Rattle.std.proofs.Common.{rules}
use Rattle.sqlchecks.proofs.literal.text_within.Goals as goal

pub returns-in_err-plain : goal.returns-in_err-plain
returns-in_err-plain c = search rules
