use Rattle.rowlaws.proofs.Parts.{update_is}
use Rattle.rowlaws.proofs.parts_of_update.Goals as goal

pub returns : goal.returns
returns c = λ passes r p before within after set t some le m parts. update_is passes r p before within after some le m parts set t
