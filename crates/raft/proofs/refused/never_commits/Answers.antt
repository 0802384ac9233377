use Rattle.std.proofs.Common.{◌≡◌, ℕ, ◌≤◌, max, length, true, ap, arith}
use Rattle.model.specs.Steps.{After, greatest, is_matched}
use Rattle.raft.specs.View.{log_of, node_of}
use Rattle.raft.proofs.Refusing.{commits_all, if_ok}
use Rattle.raft.proofs.refused.never_commits.Goals as goal

pub returns : goal.returns
returns g c =
    let old = c.args.core.now in
    let log = (g.S.LogReader.stored c.args.reader.now).log in
    if_ok c.on_agreed.result _ _ c.on_agreed.ensures.ok (λ ms ok honest index within hit.
    let e : c.on_agreed.new.self.commit ≡ max old.commit (greatest (is_matched old.members old.me (node_of old log)) (length (log_of old log))) = ap (λ (a : After). a.node.commit) (ok honest) in
    omega (arith, e, commits_all old.members old.me index (length (log_of old log)) (node_of old log) within hit))
