use Rattle.rowlaws.proofs.Parts.{delete_is}
use Rattle.rowlaws.proofs.parts_of_delete.Goals as goal

pub returns : goal.returns
returns c = λ passes r p before within after t some le m parts. delete_is passes r p before within after some le m parts t
