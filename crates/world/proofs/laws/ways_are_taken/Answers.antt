use Rattle.world.proofs.Ways.{all_taken}
use Rattle.world.proofs.laws.ways_are_taken.Goals as goal

pub returns : goal.returns
returns c = all_taken
