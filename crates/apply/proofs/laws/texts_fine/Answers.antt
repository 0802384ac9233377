use Rattle.apply.proofs.Fine.{reads_fine}
use Rattle.apply.proofs.laws.texts_fine.Goals as goal

pub returns : goal.returns
returns c = reads_fine c.literals_in_calendar.ensures
