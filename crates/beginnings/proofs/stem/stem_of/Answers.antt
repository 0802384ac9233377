use Rattle.std.proofs.Common.{rules}
use Rattle.beginnings.specs.Stems.{stem_of}
use Rattle.beginnings.proofs.stem.stem_of.Goals as goal

pub returns : goal.returns
unfolding stem_of
returns c = search rules
