use Rattle.rowlaws.proofs.Contents.{permuted}
use Rattle.rowlaws.proofs.permuted.Goals as goal

pub returns : goal.returns
returns c = permuted
