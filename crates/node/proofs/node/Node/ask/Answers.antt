use Rattle.std.proofs.Common.{ℕ, Option, subst}
use Rattle.sqlread.specs.Meaning.{language_of}
use Rattle.sqlread.specs.Shapes.{query_of}
use Rattle.model.specs.Members.{applied}
use Rattle.raft.specs.View.{node_of}
use Rattle.apply.specs.View.{IsAskedOf}
use Rattle.node.proofs.Tests.{known}
use Rattle.node.proofs.Stamped.{applied_stamped}
use Rattle.node.proofs.Columns.{columns_made}
use Rattle.node.proofs.node.Node.ask.Goals as goal

pub returns-clause-asked : goal.returns-clause-asked
returns-clause-asked g c = λ up honest.
    let node = c.args.self.now in
    let core = node.core in
    let d = g.K.LogReader.stored node.keeper in
    let list = applied (node_of core d.log) in
    let step = node.synced up honest in
    let serves = known (g.met.K.LogReader.served_once node.keeper core.members (language_of core.schema)) node.serves in
    let log = g.met.K.LogReader.only_logs node.keeper core.members (language_of core.schema) serves honest in
    let asked = c.ask.ensures.asked core.schema list (node.current up honest) (applied_stamped core core.members (language_of core.schema) d step log) in
    subst (λ (time : Option ℕ). IsAskedOf (language_of core.schema) (query_of c.args.query.now) list time c.ask.result) (c.closed_time.ensures.closed up honest) asked

pub returns-clause-columns : goal.returns-clause-columns
returns-clause-columns g c =
    let node = c.args.self.now in
    columns_made node.core.schema node.tables c.ask.result c.args.query.now (node.made c.if-not-self.false) c.ask.ensures.columns
