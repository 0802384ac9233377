use Rattle.rowlaws.proofs.Orphaned.{orphan_on_rows}
use Rattle.rowlaws.proofs.orphan_on_rows.Goals as goal

pub returns : goal.returns
returns c = orphan_on_rows
