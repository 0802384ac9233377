use Rattle.current.proofs.States.{of_some_state}
use Rattle.current.proofs.laws.of_some_state.Goals as goal

pub returns : goal.returns
returns c = of_some_state c.insert_on_rows.ensures c.overlaps_on_rows.ensures c.same_rows.ensures c.logs_on_rows.ensures
