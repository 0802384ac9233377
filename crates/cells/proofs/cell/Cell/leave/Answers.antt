use Rattle.std.proofs.Common.{◌∙◌, ap}
use Rattle.node.specs.View.{durable_of}
use Rattle.cells.proofs.cell.Cell.leave.Goals as goal

pub returns-clause-stored : goal.returns-clause-stored
returns-clause-stored g c = λ up d held.
    let cell = c.args.self in
    c.stop-2.ensures.last up d held ∙ ap durable_of ((cell.replayed up).0 (g.met.K.LogReader.only_honest cell.node.keeper d (c.stop-2.ensures.held d held)))
