use Rattle.rowlaws.proofs.Listed.{count_is}
use Rattle.rowlaws.proofs.row_count.Goals as goal

pub returns : goal.returns
returns c = count_is
