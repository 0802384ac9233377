use Rattle.rowlaws.proofs.Tests.{same_overlaps}
use Rattle.rowlaws.proofs.overlaps_on_rows.Goals as goal

pub returns : goal.returns
returns c = λ rows old key p l le. same_overlaps rows old l p le key
