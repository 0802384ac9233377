use Rattle.sqlread.specs.Meaning.{language_of}
use Rattle.model.specs.Members.{applied}
use Rattle.raft.specs.View.{node_of}
use Rattle.node.proofs.Tests.{known}
use Rattle.node.proofs.Stamped.{applied_stamped}
use Rattle.node.proofs.node.Node.reads.Goals as goal

pub returns-clause-few : goal.returns-clause-few
returns-clause-few g c = λ up honest.
    let node = c.args.self.now in
    let core = node.core in
    let d = g.K.LogReader.stored node.keeper in
    let list = applied (node_of core d.log) in
    let step = node.synced up honest in
    let serves = known (g.met.K.LogReader.served_once node.keeper core.members (language_of core.schema)) node.serves in
    let log = g.met.K.LogReader.only_logs node.keeper core.members (language_of core.schema) serves honest in
    c.reads.ensures.few core.schema list (node.current up honest) (applied_stamped core core.members (language_of core.schema) d step log)
