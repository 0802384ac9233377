use Rattle.readerlaws.proofs.Runs.{refused_unless_closed, nothing_comes_below}
use Rattle.readerlaws.proofs.refused_unless_closed.Goals as goal

pub returns-clause-refused : goal.returns-clause-refused
returns-clause-refused c = refused_unless_closed

pub returns-clause-closed : goal.returns-clause-closed
returns-clause-closed c = nothing_comes_below c.agreement.ensures.new
