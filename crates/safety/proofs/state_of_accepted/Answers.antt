use Rattle.safety.proofs.Accepted.{state_of_accepted}
use Rattle.safety.proofs.state_of_accepted.Goals as goal

pub returns : goal.returns
returns c = state_of_accepted
