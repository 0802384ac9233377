use Rattle.beginnings.proofs.Growing.{no_others}
use Rattle.beginnings.proofs.laws.no_others.Goals as goal

pub returns : goal.returns
returns c = no_others
