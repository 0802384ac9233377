use Rattle.rowlaws.proofs.Contents.{apart_is}
use Rattle.rowlaws.proofs.apart_pairs.Goals as goal

pub returns : goal.returns
returns c = apart_is
