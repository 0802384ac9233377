use Rattle.std.proofs.Common.{◌∙◌, ap}
use Rattle.model.specs.Steps.{After}
use Rattle.raft.specs.View.{node_of}
use Rattle.raft.proofs.Refusing.{unsealed}
use Rattle.raft.proofs.refused.seals_without_a_majority.Goals as goal

pub returns-clause-sent : goal.returns-clause-sent
returns-clause-sent g c =
    let old = c.args.core.now in
    ap (λ (a : After). a.sent) c.on_stored.ensures.done ∙ (unsealed old.members old.me c.args.sender c.args.term c.args.index c.args.floor (node_of old g.stored) c.requires).0

pub returns-clause-sealed : goal.returns-clause-sealed
returns-clause-sealed g c =
    let old = c.args.core.now in
    ap (λ (a : After). a.node.sealed) c.on_stored.ensures.done ∙ (unsealed old.members old.me c.args.sender c.args.term c.args.index c.args.floor (node_of old g.stored) c.requires).1
