use Rattle.sysversion.proofs.Counting.{one_for_each_row}
use Rattle.sysversion.proofs.laws.one_for_each_row.Goals as goal

pub returns : goal.returns
returns c = one_for_each_row
