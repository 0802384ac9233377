use Rattle.rowlaws.proofs.Transacted.{text_same}
use Rattle.rowlaws.proofs.texts_on_rows.Goals as goal

pub returns : goal.returns
returns c = text_same
