use Rattle.rowlaws.proofs.Contents.{contained}
use Rattle.rowlaws.proofs.has_contains.Goals as goal

pub returns : goal.returns
returns c = contained
