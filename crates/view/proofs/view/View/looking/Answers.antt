use Rattle.view.proofs.Turns.{looks}
use Rattle.view.proofs.view.View.looking.Goals as goal

pub enter_as-requires : goal.enter_as-requires
enter_as-requires c = looks _ _
