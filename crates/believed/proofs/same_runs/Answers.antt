use Rattle.believed.proofs.WorldsSame.{run_same}
use Rattle.believed.proofs.GivesSame.{then_now, then_before}
use Rattle.believed.proofs.same_runs.Goals as goal

pub returns-clause-worlds : goal.returns-clause-worlds
returns-clause-worlds c = run_same

pub returns-clause-outputs : goal.returns-clause-outputs
returns-clause-outputs c = then_now

pub returns-clause-back : goal.returns-clause-back
returns-clause-back c = then_before
