use Rattle.std.proofs.Common.{◌≡◌, ℕ, ◌+◌, length, slice_range, rules, subst, arith}
use Rattle.node.specs.Applying.{AreApplied}
use Rattle.node.proofs.Recalled.{all_none, applied_none}
use Rattle.node.proofs.telling.apply_after.Goals as goal

pub returns-then-is_empty-clause-applied : goal.returns-then-is_empty-clause-applied
returns-then-is_empty-clause-applied g c = λ honest.
    let fetched = c.in_ok-entries.ensures in
    let es = c.in_ok-entries.entries in
    let core = c.args.core.now in
    let was = fetched.reader.honest honest in
    let none : length es.items ≡ 0 = search rules in
    let all : c.args.before ≡ core.commit = omega (arith, none, fetched.count (c.requires.rises was)) in
    subst (λ (n : ℕ). AreApplied core.schema (g.S.LogReader.stored c.args.reader.now).log c.args.before n es.items c.new.result.items c.args.tables.now) all
    (applied_none core.schema (g.S.LogReader.stored c.args.reader.now).log c.args.before es.items c.new.result.items c.args.tables.now (all_none es.items none) c.new.ensures.items (c.requires.current was))

pub returns-clause-applied : goal.returns-clause-applied
returns-clause-applied g c = λ honest.
    let fetched = c.in_ok-entries.ensures in
    let es = c.in_ok-entries.entries in
    let core = c.args.core.now in
    let before = c.args.before in
    let log = (g.S.LogReader.stored c.args.reader.now).log in
    let was = fetched.reader.honest honest in
    let all : before + length es.items ≡ core.commit = fetched.count (c.requires.rises was) in
    let got = rw c.as_slice.ensures.value at c.in_ok-told.ensures.applied in
    let is : es.items ≡ slice_range log before (before + length es.items) = rw all (fetched.entries honest) in
    subst (λ (n : ℕ). AreApplied core.schema log before n es.items c.in_ok-told.told.items c.apply_all.new.tables) all (got core.schema log c.requires.noted is (c.requires.current was))

pub returns-clause-noted : goal.returns-clause-noted
returns-clause-noted g c = c.in_ok-told.ensures.noted c.args.core.now.schema c.requires.noted
