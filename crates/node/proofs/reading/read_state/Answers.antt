use Rattle.raft.specs.View.{IsStateOf}
use Rattle.node.proofs.Starting.{start_is}
use Rattle.node.proofs.reading.read_state.Goals as goal

pub returns-then-not-is_start-clause-bad : goal.returns-then-not-is_start-clause-bad
returns-then-not-is_start-clause-bad g c = λ e tables serves honest.
    let read = c.in_ok-state.ensures in
    let was = read.ok honest in
    let is : IsStateOf c.in_ok-state.state (g.K.LogReader.stored c.args.keeper.now) = record { hard = was.0; length = was.1; tail = was.2 } in
    c.is_start.ensures.no c.if-not-is_start.true (start_is c.args.members tables c.in_ok-state.state (g.K.LogReader.stored c.args.keeper.now) is (read.log honest c.args.members tables serves))
