use Rattle.std.proofs.Common.{◌≡◌, ◌≤◌, ◌+◌, ℕ, length, rules, take, arith, sym, subst}
use Rattle.node.specs.Applying.{AreApplied}
use Rattle.node.specs.Recall.{AreNoted, IsRecall}
use Rattle.node.specs.declared.recall.Recall.{Recall}
use Rattle.node.specs.declared.recall.Notes.{Notes}
use Rattle.node.proofs.Recalled.{begun_none, past_none, recalled}
use Rattle.node.proofs.recall.begin.Goals as goal

pub returns-in-Off-clause-applied : goal.returns-in-Off-clause-applied
returns-in-Off-clause-applied c = λ schema log noted is are. begun_none schema log c.args.entries.now c.args.before _ _ (search rules) are

pub returns-in-All-clause-applied : goal.returns-in-All-clause-applied
returns-in-All-clause-applied c = λ schema log noted is are. begun_none schema log c.args.entries.now c.args.before _ _ (search rules) are

pub returns-then-before-gt0-clause-applied : goal.returns-then-before-gt0-clause-applied
returns-then-before-gt0-clause-applied c = λ schema log noted is are. begun_none schema log c.args.entries.now c.args.before _ _ (search rules) are

pub returns-then-before-gt0-clause-noted : goal.returns-then-before-gt0-clause-noted
returns-then-before-gt0-clause-noted c = λ schema noted.
    let both = subst (λ (n : Notes). AreNoted schema c.args.tables.now n) c.in-Before.is noted in
    past_none schema _ _ _ (search rules) (search rules) both.1

pub returns-else-not-is_beginning-clause-applied : goal.returns-else-not-is_beginning-clause-applied
returns-else-not-is_beginning-clause-applied c = λ schema log noted is are.
    let r = c.into_inner-first.result in
    let es = c.args.entries.now in
    let both = subst (λ (n : Notes). AreNoted schema c.args.tables.now n) c.in-Before.is noted in
    let long : c.len-count.result ≡ length r.applied.entries.items = search rules in
    let within : length r.applied.entries.items ≤ length es = rw c.as_slice.ensures.value at (c.is_beginning.ensures.within c.if-not-is_beginning.false) in
    let same : take (length r.applied.entries.items) es ≡ r.applied.entries.items = rw c.as_slice.ensures.value at (c.is_beginning.ensures.same c.if-not-is_beginning.false) in
    let start : c.args.before ≡ 0 = omega arith in
    subst (λ (n : ℕ). AreApplied schema log c.args.before (c.args.before + n) (take n es) r.applied.told.items r.tables) (sym long)
    (recalled schema log es r.applied.entries.items c.args.before r.applied.told.items r.tables start is within same (subst (λ (x : Recall). IsRecall schema x) (sym c.into_inner-first.ensures) both.0))

pub returns-else-not-is_beginning-clause-noted : goal.returns-else-not-is_beginning-clause-noted
returns-else-not-is_beginning-clause-noted c = λ schema noted.
    let both = subst (λ (n : Notes). AreNoted schema c.args.tables.now n) c.in-Before.is noted in
    past_none schema _ _ _ (search rules) (search rules) both.1
