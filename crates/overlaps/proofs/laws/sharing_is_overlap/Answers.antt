use Rattle.overlaps.proofs.Sharing.{shares_day-is}
use Rattle.overlaps.proofs.laws.sharing_is_overlap.Goals as goal

pub returns : goal.returns
returns c = shares_day-is
