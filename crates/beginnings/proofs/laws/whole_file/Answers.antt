use Rattle.beginnings.proofs.Growing.{whole}
use Rattle.beginnings.proofs.laws.whole_file.Goals as goal

pub returns : goal.returns
returns c = whole
