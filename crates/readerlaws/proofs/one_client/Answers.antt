use Rattle.readerlaws.proofs.Logs.{one_client}
use Rattle.readerlaws.proofs.one_client.Goals as goal

pub returns : goal.returns
returns c = one_client
