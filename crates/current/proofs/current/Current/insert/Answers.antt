use Rattle.std.proofs.Common.{◌≡◌, ℕ, ◌==◌, cond, [], ◌∷◌, ◌++◌, ap, ◌∙◌, subst, length, arith}
use Rattle.model.specs.Tables.{Row}
use Rattle.model.specs.Periods.{period_of}
use Rattle.rowlaws.specs.Changes.{new_row}
use Rattle.current.specs.declared.strand.Changes.{Changes}
use Rattle.current.specs.Rows.{row_of}
use Rattle.current.specs.Table.{rows_of_table, IsInserted, IsInsertRefused}
use Rattle.current.specs.Touched.{removed_of, added_of, removed_in, added_in}
use Rattle.current.proofs.Lists.{pushed}
use Rattle.current.proofs.Moves.{last_day}
use Rattle.current.proofs.Reading.{insert_at, columns_within, if_few}
use Rattle.current.proofs.Statements.{insert_run, insert_refused, same_after}
use Rattle.current.proofs.current.Current.insert.Goals as goal

pub returns-in-Ok-clause-ok : goal.returns-in-Ok-clause-ok
returns-in-Ok-clause-ok c =
    let laws = c.action_laws.ensures in
    let insert = c.args.insert.now in
    let n = insert.table in
    let t = c.args.t in
    let row : Row = new_row insert.key.items insert.values.items (period_of insert.period) t in
    let is : row_of c.in_ok-row.row ≡ row = c.in_ok-row.ensures in
    let changes : Changes = record { removed = c.none-changes.result.removed; added = c.push.new.self } in
    let came_one : added_of changes ≡ row ∷ [] = pushed row_of c.none-changes.result.added.items c.push.new.self.items c.in_ok-clone.field-0 row c.in_ok-push.ensures.items (c.in_ok-clone.ensures.cases ∙ is) ∙ ap (λ rs. rs ++ row ∷ []) c.none-changes.ensures.added in
    let went : (m : ℕ) → removed_in c.with.result m ≡ cond (m == n) (removed_of changes) [] = λ m. c.with.ensures.removed m ∙ ap (λ rs. cond (m == n) (removed_of changes) rs) (c.in_ok-touched.ensures.removed m) in
    let came : (m : ℕ) → added_in c.with.result m ≡ cond (m == n) (added_of changes) [] = λ m. c.with.ensures.added m ∙ ap (λ rs. cond (m == n) (added_of changes) rs) (c.in_ok-touched.ensures.added m) in
    let done : IsInserted row (rows_of_table c.index_mut.result.now) (rows_of_table c.insert.new.self) = subst (λ r. IsInserted r (rows_of_table c.index_mut.result.now) (rows_of_table c.insert.new.self)) is c.in-Ok.ensures.ok in
    insert_run laws.on_rows laws.count laws.untouched laws.touched laws.same c.args.self.now.tables.items n (omega (arith, c.requires, c.args.self.now.counted)) c.index_mut.result.now c.insert.new.self c.index_mut.ensures.value
    t (removed_in c.with.result) (added_in c.with.result) (removed_of changes) (added_of changes) went came insert.key.items insert.values.items (period_of insert.period) insert.period.ordered (last_day insert.period) done c.none-changes.ensures.removed came_one

pub returns-in-Err-clause-err : goal.returns-in-Err-clause-err
returns-in-Err-clause-err c =
    let laws = c.action_laws.ensures in
    let insert = c.args.insert.now in
    let t = c.args.t in
    let row : Row = new_row insert.key.items insert.values.items (period_of insert.period) t in
    let is : row_of c.in_ok-row.row ≡ row = c.in_ok-row.ensures in
    let refused : IsInsertRefused row (rows_of_table c.index_mut.result.now) c.in-Err.refusal = subst (λ r. IsInsertRefused r (rows_of_table c.index_mut.result.now) c.in-Err.refusal) is c.in-Err.ensures.err.1 in
    insert_refused laws.on_rows laws.count laws.untouched laws.touched laws.same c.args.self.now.tables.items insert.table (omega (arith, c.requires, c.args.self.now.counted)) c.index_mut.result.now c.insert.new.self c.index_mut.ensures.value
    t insert.key.items insert.values.items (period_of insert.period) c.in-Err.refusal insert.period.ordered (last_day insert.period) refused

pub returns-in-Err-clause-unchanged : goal.returns-in-Err-clause-unchanged
returns-in-Err-clause-unchanged c =
    let laws = c.action_laws.ensures in
    same_after laws.on_rows laws.count laws.untouched laws.touched laws.same c.args.self.now.tables.items c.args.insert.now.table (omega (arith, c.requires, c.args.self.now.counted)) c.index_mut.result.now c.insert.new.self c.index_mut.ensures.value c.in-Err.ensures.err.0

pub returns-in-Ok-clause-few : goal.returns-in-Ok-clause-few
returns-in-Ok-clause-few c =
    let key = ap (λ (r : Row). r.key) c.in_ok-row.ensures in
    insert_at c.args.self.now.tables.items c.args.insert.now.table (omega (arith, c.requires, c.args.self.now.counted)) c.index_mut.result.now c.index_mut.ensures.value c.in_ok-row.row.key c.args.insert.now.key.items c.args.count.now c.insert.new.count key c.insert.ensures.few

pub returns-in-Err-clause-few : goal.returns-in-Err-clause-few
returns-in-Err-clause-few c =
    let key = ap (λ (r : Row). r.key) c.in_ok-row.ensures in
    insert_at c.args.self.now.tables.items c.args.insert.now.table (omega (arith, c.requires, c.args.self.now.counted)) c.index_mut.result.now c.index_mut.ensures.value c.in_ok-row.row.key c.args.insert.now.key.items c.args.count.now c.insert.new.count key c.insert.ensures.few

pub returns-in-Ok-clause-columns : goal.returns-in-Ok-clause-columns
returns-in-Ok-clause-columns c = λ columns before enough.
    let key = ap (λ (r : Row). length r.key) c.in_ok-row.ensures in
    let insert = c.args.insert.now in
    let more = c.insert.ensures.columns in
    columns_within c.args.self.now.tables.items insert.table c.index_mut.result.now c.insert.new.self (length insert.key.items) columns (omega (arith, c.requires, c.args.self.now.counted)) c.index_mut.ensures.value (omega (arith, more, key)) before enough

pub returns-in-Err-clause-columns : goal.returns-in-Err-clause-columns
returns-in-Err-clause-columns c = λ columns before enough.
    let key = ap (λ (r : Row). length r.key) c.in_ok-row.ensures in
    let insert = c.args.insert.now in
    let more = c.insert.ensures.columns in
    columns_within c.args.self.now.tables.items insert.table c.index_mut.result.now c.insert.new.self (length insert.key.items) columns (omega (arith, c.requires, c.args.self.now.counted)) c.index_mut.ensures.value (omega (arith, more, key)) before enough

pub returns-in-Ok-clause-each : goal.returns-in-Ok-clause-each
returns-in-Ok-clause-each c = λ m.
    let n = c.args.insert.now.table in
    let changes : Changes = record { removed = c.none-changes.result.removed; added = c.push.new.self } in
    let went = ap length (c.with.ensures.removed m ∙ ap (λ rs. cond (m == n) (removed_of changes) rs) (c.in_ok-touched.ensures.removed m)) in
    let none = ap length c.none-changes.ensures.removed in
    let few = if_few (m == n) (removed_of changes) c.insert.new.count (omega (arith, none)) in
    omega (arith, went, few)
