use Rattle.std.proofs.Common.{rules, ◌≤◌, length, arith, sym}
use Rattle.raft.specs.View.{log_of}
use Rattle.raft.proofs.Lists.{room_accepted}
use Rattle.raft.proofs.Windows.{length_of}
use Rattle.raft.proofs.state.Core.cuts_too_far.Goals as goal

pub returns-else-index-self-clause-value : goal.returns-else-index-self-clause-value
returns-else-index-self-clause-value g c = λ is.
    let now = c.args.self.now in
    let log = log_of now g.stored in
    let len = length_of now g.stored c.requires.0 in
    let small : length log ≤ 100000 = omega (arith, len, now.log.within) in
    let within : c.args.prev ≤ length log = omega (arith, len, c.requires.1.1) in
    let e = room_accepted log c.args.prev c.args.entries.now small within in
    rw (e, sym is) (search rules)
