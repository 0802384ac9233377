use Rattle.std.proofs.Common.{◌≡◌, ◌≤◌, min, length, arith}
use Rattle.model.specs.Members.{agreed}
use Rattle.raft.specs.View.{log_of}
use Rattle.raft.proofs.Lists.{agreed_between}
use Rattle.raft.proofs.Windows.{agreed_seen, length_of}
use Rattle.raft.proofs.state.Core.agreed.Goals as goal

pub returns-clause-value : goal.returns-clause-value
returns-clause-value g c = λ seen.
    let log = log_of c.args.self.now g.stored in
    let len = length_of c.args.self.now g.stored c.requires.0 in
    let within : c.args.prev ≤ length log = omega (arith, len, c.requires.1.1) in
    let is = agreed_seen log c.args.window.now c.args.entries.now c.args.prev seen c.requires.1.0 in
    let far = agreed_between log c.args.entries.now c.args.prev within in
    let first : c.min-first.result ≡ min c.args.prev 1 = c.min-first.ensures in
    let part : c.agreed.result ≡ agreed c.args.window.now (min c.args.prev 1) c.args.entries.now = rw first at c.agreed.ensures.value in
    omega (arith, c.min.ensures, c.length.ensures, len, part, is, far.most, first)
