use Rattle.runlaws.proofs.Going.{goes_further}
use Rattle.runlaws.proofs.goes_on.Goals as goal

pub returns : goal.returns
returns c = goes_further
