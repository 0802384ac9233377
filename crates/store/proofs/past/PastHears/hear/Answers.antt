use Rattle.std.proofs.Common.{sym, subst}
use Rattle.journal.specs.declared.line.Line.{Line}
use Rattle.store.specs.Tales.{told_after}
use Rattle.store.specs.Pasts.{told_by, IsHeard}
use Rattle.store.proofs.past.PastHears.hear.Goals as goal

pub returns-in-Opens : goal.returns-in-Opens
returns-in-Opens c =
    subst (λ (line : Line). IsHeard (told_by c.args.self.now) (told_after (told_by c.args.self.now) line) c.open.result (told_by c.open.new.self)) (sym c.in-Opens.is) (c.open.ensures c.in-Opens.journal c.in-Opens.sum)
