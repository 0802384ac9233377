use Rattle.std.proofs.Common.{◌≡◌, ◌-◌, drop, rules}
use Rattle.raft.proofs.Changes.{whole_again}
use Rattle.raft.proofs.short_log.ShortLog.unsaved.Goals as goal

pub returns-clause-whole : goal.returns-clause-whole
returns-clause-whole g c =
    let l = c.args.self.now in
    let items : c.in_ok-entries.entries.items ≡ drop (l.saved - l.elsewhere) l.tail.items = search rules in
    rw items (whole_again l g.stored c.requires)
