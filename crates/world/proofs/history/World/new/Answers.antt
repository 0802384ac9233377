use Rattle.world.proofs.Giving.{silent_world}
use Rattle.world.proofs.history.World.new.Goals as goal

pub returns-clause-silent : goal.returns-clause-silent
returns-clause-silent c = silent_world _ c.new.ensures.items
