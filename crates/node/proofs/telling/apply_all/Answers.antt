use Rattle.std.proofs.Common.{◌≡◌, ◌+◌, ℕ, List, length, take, sym, subst}
use Rattle.model.specs.declared.entry.Told.{Told}
use Rattle.node.specs.Applying.{AreApplied}
use Rattle.node.specs.Recall.{AreNoted}
use Rattle.node.specs.declared.recall.Notes.{Notes}
use Rattle.node.proofs.telling.apply_all.Goals as goal

pub returns-clause-applied : goal.returns-clause-applied
returns-clause-applied c = λ schema log noted is are.
    let was = subst (λ (n : Notes). AreNoted schema c.args.tables.now n) (sym c.replace-was.ensures.value) noted in
    c.in_ok-execute.ensures.applied schema log is (c.begin-begun.ensures.applied schema log was is are)

pub returns-clause-noted : goal.returns-clause-noted
returns-clause-noted c = λ schema noted.
    let es = c.args.entries.now in
    let before = c.args.before in
    let was = subst (λ (n : Notes). AreNoted schema c.args.tables.now n) (sym c.replace-was.ensures.value) noted in
    c.note.ensures schema c.args.tables.now c.execute.new.tables (c.begin-begun.ensures.noted schema was) (subst (λ (n : ℕ). c.begin-begun.result.first.items ≡ take n es) (sym c.begin-begun.ensures.first.0) c.begin-begun.ensures.first.1)
    (λ log is are. subst (λ (ts : List Told). AreApplied schema log before (before + length es) es ts c.execute.new.tables) (sym c.as_slice.ensures.value)
    (c.in_ok-execute.ensures.applied schema log is (c.begin-begun.ensures.applied schema log was is are)))
