use Rattle.rowlaws.proofs.Listed.{row_listed}
use Rattle.rowlaws.proofs.each_listed.Goals as goal

pub returns : goal.returns
returns c = row_listed
