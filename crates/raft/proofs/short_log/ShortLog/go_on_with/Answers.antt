use Rattle.std.proofs.Common.{◌≡◌, ◌-◌, ◌++◌, take, sym, rules, append_assoc}
use Rattle.raft.proofs.Windows.{cut_high}
use Rattle.raft.proofs.short_log.ShortLog.go_on_with.Goals as goal

pub returns-clause-ok : goal.returns-clause-ok
returns-clause-ok g c =
    let s = c.args.self.now.elsewhere in
    let tail = c.args.self.now.tail.items in
    let items : c.append.new.self.items ≡ take (c.args.kept - s) tail ++ c.args.entries.items = search rules in
    rw (items, cut_high s c.args.kept g.stored tail c.if-kept-self.false c.requires.0) (sym (append_assoc (take s g.stored) (take (c.args.kept - s) tail) c.args.entries.items))
