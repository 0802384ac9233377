use Rattle.std.proofs.Common.{ap}
use Rattle.world.specs.declared.group.Group.{Group}
use Rattle.world.proofs.refused.sends_of_a_torn_step.Goals as goal

pub returns : goal.returns
returns c = ap (λ (x : Group). x.sent.items) c.tear.ensures.same
