use Rattle.std.proofs.Common.{rules}
use Rattle.beginnings.specs.Stems.{tail_of}
use Rattle.beginnings.proofs.stem.tail_of.Goals as goal

pub returns : goal.returns
unfolding tail_of
returns c = search rules
