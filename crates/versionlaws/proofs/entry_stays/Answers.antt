use Rattle.versionlaws.proofs.Kept.{entry_stays_held}
use Rattle.versionlaws.proofs.entry_stays.Goals as goal

pub returns : goal.returns
returns c = entry_stays_held
