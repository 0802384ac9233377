use Rattle.rowlaws.proofs.Tests.{same_overflows}
use Rattle.rowlaws.proofs.overflows_on_rows.Goals as goal

pub returns : goal.returns
returns c = λ rows old passes p set l le. same_overflows rows old l p le passes set
