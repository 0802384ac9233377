use Rattle.std.proofs.Common.{◌∙◌, subst}
use Rattle.keep.specs.Durable.{Durable}
use Rattle.sqlread.specs.Meaning.{language_of}
use Rattle.node.proofs.Starting.{stored_is}
use Rattle.node.proofs.Tests.{known}
use Rattle.node.proofs.node.Node.rest.Goals as goal

pub returns-clause-last : goal.returns-clause-last
returns-clause-last g c = λ up d held.
    let node = c.args.self in
    let may = c.close.ensures.holds d held in
    g.met.K.LogReader.only_stored node.keeper d may ∙ stored_is node.core (g.K.LogReader.stored node.keeper) (node.synced up (g.met.K.LogReader.only_honest node.keeper d may))

pub returns-clause-suits : goal.returns-clause-suits
returns-clause-suits g c =
    let core = c.args.self.core in
    c.close.ensures.suits core.members (language_of core.schema) (known (g.met.K.LogReader.served_once c.args.self.keeper core.members (language_of core.schema)) c.args.self.serves)

pub returns-clause-whole : goal.returns-clause-whole
returns-clause-whole g c = λ up honest.
    let node = c.args.self in
    let P : Durable → Type 0 = g.K.LogReader.may_hold node.keeper in
    c.close.ensures.kept _ (subst P (stored_is node.core (g.K.LogReader.stored node.keeper) (node.synced up honest)) (g.met.K.LogReader.holds_stored node.keeper honest))

pub returns-clause-good : goal.returns-clause-good
returns-clause-good g c = λ honest bad.
    let core = c.args.self.core in
    c.close.ensures.good core.members (language_of core.schema) (known (g.met.K.LogReader.served_once c.args.self.keeper core.members (language_of core.schema)) c.args.self.serves) honest bad

pub returns-clause-recall : goal.returns-clause-recall
returns-clause-recall g c = c.recall-recall.ensures c.args.self.core.schema (λ up. c.args.self.noted up)
