use Rattle.rowlaws.proofs.Keys.{key_total}
use Rattle.rowlaws.proofs.keys_ordered.Goals as goal

pub returns : goal.returns
returns c = key_total
