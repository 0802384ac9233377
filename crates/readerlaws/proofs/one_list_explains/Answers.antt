use Rattle.readerlaws.proofs.Runs.{one_list_explains}
use Rattle.readerlaws.proofs.one_list_explains.Goals as goal

pub returns : goal.returns
returns c = one_list_explains c.one_list_explains.ensures.new
