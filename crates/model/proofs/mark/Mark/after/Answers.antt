use Rattle.std.proofs.Common.{rules}
use Rattle.model.proofs.mark.Mark.after.Goals as goal

pub returns-then-number-ge-LAST_MARK : goal.returns-then-number-ge-LAST_MARK
returns-then-number-ge-LAST_MARK c = search rules

pub returns : goal.returns
returns c = search rules
