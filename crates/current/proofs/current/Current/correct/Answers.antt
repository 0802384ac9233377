use Rattle.std.proofs.Common.{◌≡◌, ℕ, ◌==◌, cond, [], length, ap, ◌∙◌, arith}
use Rattle.current.specs.Touched.{removed_of, added_of, removed_in, added_in}
use Rattle.std.proofs.lemmas.List.{length-map}
use Rattle.model.specs.Periods.{period_of}
use Rattle.current.specs.Rows.{row_of}
use Rattle.current.proofs.Reading.{named_at, all_at, columns_same, if_few}
use Rattle.current.proofs.Statements.{correction_run, correction_refused, same_after}
use Rattle.current.proofs.current.Current.correct.Goals as goal

pub returns-in-Ok-clause-ok : goal.returns-in-Ok-clause-ok
returns-in-Ok-clause-ok c =
    let laws = c.action_laws.ensures in
    let correction = c.args.correction.now in
    let n = c.args.table in
    let changes = c.in-Ok.changes in
    let went : (m : ℕ) → removed_in c.with.result m ≡ cond (m == n) (removed_of changes) [] = λ m. c.with.ensures.removed m ∙ ap (λ rs. cond (m == n) (removed_of changes) rs) (c.in_ok-touched.ensures.removed m) in
    let came : (m : ℕ) → added_in c.with.result m ≡ cond (m == n) (added_of changes) [] = λ m. c.with.ensures.added m ∙ ap (λ rs. cond (m == n) (added_of changes) rs) (c.in_ok-touched.ensures.added m) in
    correction_run laws.on_rows laws.count laws.untouched laws.touched laws.same c.args.self.now.tables.items n (omega (arith, c.requires, c.args.self.now.counted)) c.index_mut.result.now c.correct.new.self c.index_mut.ensures.value
    correction.system_start (removed_in c.with.result) (added_in c.with.result) (removed_of changes) (added_of changes) went came correction c.in-Ok.ensures.ok

pub returns-in-Err-clause-err : goal.returns-in-Err-clause-err
returns-in-Err-clause-err c =
    let laws = c.action_laws.ensures in
    let correction = c.args.correction.now in
    correction_refused laws.on_rows laws.count laws.untouched laws.touched laws.same c.args.self.now.tables.items c.args.table (omega (arith, c.requires, c.args.self.now.counted)) c.index_mut.result.now c.correct.new.self c.index_mut.ensures.value
    correction.system_start correction c.in-Err.refusal c.in-Err.ensures.err.1

pub returns-in-Err-clause-unchanged : goal.returns-in-Err-clause-unchanged
returns-in-Err-clause-unchanged c =
    let laws = c.action_laws.ensures in
    same_after laws.on_rows laws.count laws.untouched laws.touched laws.same c.args.self.now.tables.items c.args.table (omega (arith, c.requires, c.args.self.now.counted)) c.index_mut.result.now c.correct.new.self c.index_mut.ensures.value c.in-Err.ensures.err.0

pub returns-in-Ok-clause-named : goal.returns-in-Ok-clause-named
returns-in-Ok-clause-named c =
    let correction = c.args.correction.now in
    named_at c.args.self.now.tables.items c.args.table (omega (arith, c.requires, c.args.self.now.counted)) c.index_mut.result.now c.index_mut.ensures.value correction.conditions.now (period_of correction.portion) c.args.count.now c.correct.new.count c.correct.ensures.named

pub returns-in-Ok-clause-all : goal.returns-in-Ok-clause-all
returns-in-Ok-clause-all c =
    all_at c.args.self.now.tables.items c.args.table (omega (arith, c.requires, c.args.self.now.counted)) c.index_mut.result.now c.index_mut.ensures.value c.args.count.now c.correct.new.count c.correct.ensures.all

pub returns-in-Err-clause-named : goal.returns-in-Err-clause-named
returns-in-Err-clause-named c =
    let correction = c.args.correction.now in
    named_at c.args.self.now.tables.items c.args.table (omega (arith, c.requires, c.args.self.now.counted)) c.index_mut.result.now c.index_mut.ensures.value correction.conditions.now (period_of correction.portion) c.args.count.now c.correct.new.count c.correct.ensures.named

pub returns-in-Err-clause-all : goal.returns-in-Err-clause-all
returns-in-Err-clause-all c =
    all_at c.args.self.now.tables.items c.args.table (omega (arith, c.requires, c.args.self.now.counted)) c.index_mut.result.now c.index_mut.ensures.value c.args.count.now c.correct.new.count c.correct.ensures.all

pub returns-in-Ok-clause-columns : goal.returns-in-Ok-clause-columns
returns-in-Ok-clause-columns c =
    columns_same c.args.self.now.tables.items c.args.table c.index_mut.result.now c.correct.new.self (omega (arith, c.requires, c.args.self.now.counted)) c.index_mut.ensures.value c.correct.ensures.columns

pub returns-in-Err-clause-columns : goal.returns-in-Err-clause-columns
returns-in-Err-clause-columns c =
    columns_same c.args.self.now.tables.items c.args.table c.index_mut.result.now c.correct.new.self (omega (arith, c.requires, c.args.self.now.counted)) c.index_mut.ensures.value c.correct.ensures.columns

pub returns-in-Ok-clause-each : goal.returns-in-Ok-clause-each
returns-in-Ok-clause-each c = λ m.
    let n = c.args.table in
    let changes = c.in-Ok.changes in
    let went = ap length (c.with.ensures.removed m ∙ ap (λ rs. cond (m == n) (removed_of changes) rs) (c.in_ok-touched.ensures.removed m)) in
    let long = length-map changes.removed.items row_of in
    let each = c.in-Ok.ensures.each in
    let few = if_few (m == n) (removed_of changes) c.correct.new.count (omega (arith, long, each)) in
    omega (arith, went, few)
