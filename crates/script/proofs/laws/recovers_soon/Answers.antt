use Rattle.script.proofs.Counting.{recovers_soon}
use Rattle.script.proofs.laws.recovers_soon.Goals as goal

pub returns : goal.returns
returns c = recovers_soon
