use Rattle.std.proofs.Common.{◌≡◌, true, rules}
use Rattle.store.specs.Nodes.{IsNodeOf}
use Rattle.store.proofs.Reading.{read_there}
use Rattle.store.proofs.Stepping.{at_some}
use Rattle.store.proofs.seat.Seat.applied_since.Goals as goal

pub returns-in-Some-clause-reads : goal.returns-in-Some-clause-reads
returns-in-Some-clause-reads g c = λ honest tables n m x has.
    let old = c.in-Some.node in
    let new = c.since_of.new.node in
    let up : old.is_up ≡ true = search rules in
    let there : IsNodeOf g.K.LogReader.may_hold tables n m old x = at_some c.args.self.now.node old _ (λ node. IsNodeOf g.K.LogReader.may_hold tables n m node x) c.in-Some.is has.1 in
    (has.0, read_there g.K.LogReader.may_hold old new c.since_of.ensures.group up (λ u. (c.since_of.ensures.member u honest).1) (λ down. c.since_of.ensures.down down honest) tables n m x there)
