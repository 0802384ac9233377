use Rattle.beginnings.proofs.Growing.{grown}
use Rattle.beginnings.proofs.laws.growth.Goals as goal

pub returns : goal.returns
returns c = grown
