use Rattle.std.proofs.Common.{◌∙◌, ◌≤◌, max, length, sym, ap, arith}
use Rattle.raft.specs.View.{log_of, node_of}
use Rattle.raft.proofs.Greatest.{commits_low, commits_none}
use Rattle.raft.proofs.Windows.{length_of}
use Rattle.raft.proofs.state.Core.commits.Goals as goal

pub returns-then-index-self-clause-ok : goal.returns-then-index-self-clause-ok
returns-then-index-self-clause-ok g c = λ honest.
    let now = c.args.self.now in
    let log = (g.S.LogReader.stored c.args.reader.now).log in
    let most = c.held-index.ensures.most log (c.requires.reaches honest) in
    let low : c.held-index.result ≤ now.commit = omega (arith, c.if-index-self.true) in
    sym (ap (max now.commit) most ∙ commits_low now.members now.me c.held-index.result (node_of now log) low)

pub returns-else-term-self-clause-ok : goal.returns-else-term-self-clause-ok
returns-else-term-self-clause-ok g c = λ honest.
    let now = c.args.self.now in
    let log = (g.S.LogReader.stored c.args.reader.now).log in
    let was = c.in_ok-term.ensures.reader.honest honest in
    let there = c.requires.reaches was in
    let most = c.held-index.ensures.most log there in
    let within : c.held-index.result ≤ length (log_of now log) = omega (arith, c.held-index.ensures.within, length_of now log there) in
    let is = c.in_ok-term.ensures.ok honest in
    sym (ap (max now.commit) most ∙ commits_none now.members now.me c.held-index.result (node_of now log) within (c.requires.rises was) (λ same. c.if-term-self.false (is ∙ same)))
