use Rattle.storelaws.proofs.Sessions.{listed}
use Rattle.storelaws.proofs.is_told.Goals as goal

pub returns : goal.returns
returns c = listed
