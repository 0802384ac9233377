use Rattle.std.proofs.Common.{◌∙◌, ap}
use Rattle.model.specs.Members.{applied}
use Rattle.model.specs.Stamps.{greater}
use Rattle.raft.specs.View.{node_of}
use Rattle.node.proofs.node.Node.closed_time.Goals as goal

pub returns-clause-closed : goal.returns-clause-closed
returns-clause-closed g c = λ up honest.
    let node = c.args.self.now in
    let core = node.core in
    let last = c.closed.ensures core.schema (applied (node_of core (g.K.LogReader.stored node.keeper).log)) (node.current up honest) in
    c.greater.ensures ∙ ap (λ t. greater t c.sealed.result) last ∙ ap (greater _) c.sealed.ensures
