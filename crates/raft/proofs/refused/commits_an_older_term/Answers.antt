use Rattle.std.proofs.Common.{length}
use Rattle.raft.specs.View.{log_of, node_of}
use Rattle.raft.proofs.Refusing.{commits_own, if_ok}
use Rattle.raft.proofs.refused.commits_an_older_term.Goals as goal

pub returns : goal.returns
returns g c =
    let now = c.args.core.now in
    let log = (g.S.LogReader.stored c.args.reader.now).log in
    if_ok c.commits.result _ _ c.commits.ensures.ok (λ index ok honest past. commits_own now.members now.me index (length (log_of now log)) (node_of now log) (ok honest) past)
