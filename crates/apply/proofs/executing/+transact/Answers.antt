use Rattle.std.specs.List.{AllByRecursion}
use Rattle.std.proofs.Common.{arith, ◌≡◌, ℕ, map, [], ◌∷◌, ◌∙◌, length, sym, ap, subst, inl, inr}
use Rattle.std.proofs.lemmas.Result.{err_from_is_err_and}
use Rattle.rowlaws.proofs.RowFacts.{both}
use Rattle.model.specs.Transactions.{State}
use Rattle.rowlaws.specs.Statements.{AllListed}
use Rattle.rowlaws.specs.Whole.{ComesFromWhole}
use Rattle.sqlread.specs.Meaning.{language_of, meaning}
use Rattle.sqlread.specs.Shapes.{statement_of}
use Rattle.current.specs.Current.{rows_of, schema_in, IsNarrow}
use Rattle.current.specs.Places.{rows_at}
use Rattle.current.specs.Reads.{FewToUndo}
use Rattle.current.specs.declared.touched.Touched.{Touched}
use Rattle.current.specs.Touched.{removed_of, added_of, removed_in, added_in}
use Rattle.apply.specs.Executing.{IsTransacted, IsRefusedWhole}
use Rattle.apply.proofs.Fine.{statement_fine}
use Rattle.apply.proofs.Transacted.{checked, unchecked, whole_more, then_rest, stopped, undoable, undone, back_again, no_items}
use Rattle.apply.specs.Reads.{FewReadsEach}
use Rattle.apply.proofs.Reading.{removed_within, few_first, few_more, few_undone}
use Rattle.apply.proofs.executing.+transact.Goals as goal
use Rattle.apply.proofs.executing.+transact.Goals.{then-not-is_no_memory+in_ok-undo-in-Err, else-not-is_no_memory}

pub returns-in_err-check_touched-clause-err : goal.returns-in_err-check_touched-clause-err
returns-in_err-check_touched-clause-err t c =
    let p = err_from_is_err_and c.from_residual.result c.from_residual.ensures.1 in
    let e = no_items c.args.statements.now c.in_default.ensures.cases in
    let schema = language_of (schema_in c.args.current.now) in
    let rows = rows_of c.args.current.now in
    rw (p.1, p.2) (λ whole. subst (λ ss. IsRefusedWhole schema c.args.t (map meaning (map statement_of ss)) rows rows c.in_err-check_touched.field-0.0) (sym e)
    (unchecked (ComesFromWhole schema rows (removed_in c.args.before) (added_in c.args.before)) schema c.args.t rows c.in_err-check_touched.field-0.0 c.in_err-check_touched.ensures.err whole))

pub returns-in_default-clause-ok : goal.returns-in_default-clause-ok
returns-in_default-clause-ok t c = λ whole.
    let e = no_items c.args.statements.now c.in_default.ensures.cases in
    let rows = rows_of c.args.current.now in
    let touched : Touched = record { tables = c.new-tables.result } in
    let removed : (n : ℕ) → removed_in touched n ≡ [] = λ n. ap (λ xs. rows_at removed_of xs n) c.new-tables.ensures.items in
    let added : (n : ℕ) → added_in touched n ≡ [] = λ n. ap (λ xs. rows_at added_of xs n) c.new-tables.ensures.items in
    subst (λ ss. IsTransacted (language_of (schema_in c.args.current.now)) c.args.t (map meaning (map statement_of ss)) rows rows (removed_in touched) (added_in touched)) (sym e)
    (checked (language_of (schema_in c.args.current.now)) c.args.t rows (removed_in touched) (added_in touched) removed added (c.in_ok-check_touched.ensures.ok whole))

pub returns-in_err-touched-clause-err : goal.returns-in_err-touched-clause-err
returns-in_err-touched-clause-err t c =
    let p = err_from_is_err_and c.from_residual-in_err-touched.result c.from_residual-in_err-touched.ensures.1 in
    let e : c.args.statements.now ≡ c.in-Some.statement.now ∷ c.in-Some.rest.now = c.in-Some.ensures.cases.0 in
    let r = c.in_err-touched.field-0.0 in
    rw (p.1, p.2) (λ whole. subst (λ ss. IsRefusedWhole (language_of (schema_in c.args.current.now)) c.args.t (map meaning (map statement_of ss)) (rows_of c.args.current.now) (rows_of c.run.new.self) r) (sym e)
    (stopped (language_of (schema_in c.args.current.now)) c.args.t (meaning (statement_of c.in-Some.statement.now)) (map meaning (map statement_of c.in-Some.rest.now)) (rows_of c.args.current.now) (rows_of c.run.new.self) r c.in_err-touched.ensures.unchanged c.in_err-touched.ensures.err))

pub returns-in_err-touched-clause-back : goal.returns-in_err-touched-clause-back
returns-in_err-touched-clause-back t c =
    let p = err_from_is_err_and c.from_residual-in_err-touched.result c.from_residual-in_err-touched.ensures.1 in
    rw (p.1, p.2) (inr (λ state listed. subst (λ rows. AllListed rows state) (sym c.in_err-touched.ensures.unchanged) listed))

pub undo-requires-clause-touched : goal.undo-requires-clause-touched
undo-requires-clause-touched t c =
    let touched = c.in_ok-touched.touched in
    let start = c.row_laws.ensures.state c.args.current.now in
    undoable c.args.t (meaning (statement_of c.in-Some.statement.now)) (rows_of c.args.current.now) (rows_of c.run.new.self) (rows_of c.transact.new.current) (removed_in touched) (added_in touched) c.in-Err.refusal
    (λ h. both (c.is_no_memory.ensures.1 h) c.if-not-is_no_memory.true) start c.in_ok-touched.ensures.ok c.in-Err.ensures.back

pub returns-in_ok-then-in-Ok-clause-ok : goal.returns-in_ok-then-in-Ok-clause-ok
returns-in_ok-then-in-Ok-clause-ok t c = λ whole.
    let e : c.args.statements.now ≡ c.in-Some.statement.now ∷ c.in-Some.rest.now = c.in-Some.ensures.cases.0 in
    let schema = language_of (schema_in c.args.current.now) in
    let touched = c.in_ok-touched.touched in
    let all = c.in_ok-all.all in
    let later = c.in-Ok.later in
    let both' = c.in_ok-then-in-Ok.field-0 in
    let s = meaning (statement_of c.in-Some.statement.now) in
    let more = whole_more c.row_laws.ensures.whole schema c.args.t s (rows_of c.args.current.now) (rows_of c.run.new.self) (removed_in c.args.before) (added_in c.args.before) (removed_in touched) (added_in touched) (removed_in all) (added_in all)
    whole c.in_ok-touched.ensures.ok c.in_ok-all.ensures.removed c.in_ok-all.ensures.added in
    let came = subst (λ x. ComesFromWhole (language_of x) (rows_of c.run.new.self) (removed_in all) (added_in all)) (sym c.run.ensures.schema) more in
    subst (λ ss. IsTransacted schema c.args.t (map meaning (map statement_of ss)) (rows_of c.args.current.now) (rows_of c.transact.new.current) (removed_in both') (added_in both')) (sym e)
    (then_rest c.row_laws.ensures.follows schema c.args.t s (map meaning (map statement_of c.in-Some.rest.now)) (rows_of c.args.current.now) (rows_of c.run.new.self) (rows_of c.transact.new.current)
    (removed_in touched) (added_in touched) (removed_in later) (added_in later) (removed_in both') (added_in both') (statement_fine c.in-Some.statement.now)
    c.in_ok-touched.ensures.ok
    (subst (λ x. IsTransacted (language_of x) c.args.t (map meaning (map statement_of c.in-Some.rest.now)) (rows_of c.run.new.self) (rows_of c.transact.new.current) (removed_in later) (added_in later)) c.run.ensures.schema (c.in-Ok.ensures.ok came))
    c.in_ok-then-in-Ok.ensures.removed c.in_ok-then-in-Ok.ensures.added)

pub returns-after-not-is_no_memory-clause-err : goal.returns-after-not-is_no_memory-clause-err
returns-after-not-is_no_memory-clause-err t c = λ whole.
    let e : c.args.statements.now ≡ c.in-Some.statement.now ∷ c.in-Some.rest.now = c.in-Some.ensures.cases.0 in
    let schema = language_of (schema_in c.args.current.now) in
    let touched = c.in_ok-touched.touched in
    let all = c.in_ok-all.all in
    let s = meaning (statement_of c.in-Some.statement.now) in
    let more = whole_more c.row_laws.ensures.whole schema c.args.t s (rows_of c.args.current.now) (rows_of c.run.new.self) (removed_in c.args.before) (added_in c.args.before) (removed_in touched) (added_in touched) (removed_in all) (added_in all)
    whole c.in_ok-touched.ensures.ok c.in_ok-all.ensures.removed c.in_ok-all.ensures.added in
    let came = subst (λ x. ComesFromWhole (language_of x) (rows_of c.run.new.self) (removed_in all) (added_in all)) (sym c.run.ensures.schema) more in
    subst (λ ss. IsRefusedWhole schema c.args.t (map meaning (map statement_of ss)) (rows_of c.args.current.now) (rows_of c.if-not-is_no_memory.current) c.in-Err.refusal) (sym e)
    (elim c.if-not-is_no_memory.branch [
      | then-not-is_no_memory+in_ok-undo-in-Err w ↦
          rw w.current-is (undone schema c.args.t s (map meaning (map statement_of c.in-Some.rest.now)) (rows_of c.args.current.now) (rows_of c.run.new.self) (rows_of c.transact.new.current) (rows_of w.undo.new.self) (removed_in touched) (added_in touched) c.in-Err.refusal
          c.in_ok-touched.ensures.ok
          (subst (λ x. IsRefusedWhole (language_of x) c.args.t (map meaning (map statement_of c.in-Some.rest.now)) (rows_of c.run.new.self) (rows_of c.transact.new.current) c.in-Err.refusal) c.run.ensures.schema (c.in-Err.ensures.err came)) w.in_ok-undo-in-Err.ensures.ok)
      | else-not-is_no_memory w ↦ inl (c.is_no_memory.ensures.0 w.if-not-is_no_memory.false)
    ])

pub returns-after-not-is_no_memory-clause-back : goal.returns-after-not-is_no_memory-clause-back
returns-after-not-is_no_memory-clause-back t c =
    let touched = c.in_ok-touched.touched in
    elim c.if-not-is_no_memory.branch [
      | then-not-is_no_memory+in_ok-undo-in-Err w ↦
          rw w.current-is (back_again c.args.t (meaning (statement_of c.in-Some.statement.now)) (rows_of c.args.current.now) (rows_of c.run.new.self) (rows_of c.transact.new.current) (rows_of w.undo.new.self) (removed_in touched) (added_in touched) c.in-Err.refusal
          c.in_ok-touched.ensures.ok c.in-Err.ensures.back w.in_ok-undo-in-Err.ensures.ok)
      | else-not-is_no_memory w ↦ inl (c.is_no_memory.ensures.0 w.if-not-is_no_memory.false)
    ]

pub returns-in_err-check_touched-clause-few : goal.returns-in_err-check_touched-clause-few
returns-in_err-check_touched-clause-few t c = λ columns narrow before state listed.
    let e = no_items c.args.statements.now c.in_default.ensures.cases in
    subst (λ ss. FewReadsEach (schema_in c.args.current.now) columns c.args.t (map statement_of ss) (removed_in c.args.before) (added_in c.args.before) state c.args.count.now c.check_touched.new.count) (sym e) (rows_of c.args.current.now, listed, c.check_touched.ensures.few)

pub returns-in_default-clause-few : goal.returns-in_default-clause-few
returns-in_default-clause-few t c = λ columns narrow before state listed.
    let e = no_items c.args.statements.now c.in_default.ensures.cases in
    subst (λ ss. FewReadsEach (schema_in c.args.current.now) columns c.args.t (map statement_of ss) (removed_in c.args.before) (added_in c.args.before) state c.args.count.now c.check_touched.new.count) (sym e) (rows_of c.args.current.now, listed, c.check_touched.ensures.few)

pub returns-in_err-touched-clause-few : goal.returns-in_err-touched-clause-few
returns-in_err-touched-clause-few t c = λ columns narrow before state listed.
    let e : c.args.statements.now ≡ c.in-Some.statement.now ∷ c.in-Some.rest.now = c.in-Some.ensures.cases.0 in
    subst (λ ss. FewReadsEach (schema_in c.args.current.now) columns c.args.t (map statement_of ss) (removed_in c.args.before) (added_in c.args.before) state c.args.count.now c.run.new.count) (sym e)
    (few_first (schema_in c.args.current.now) columns c.args.t (statement_of c.in-Some.statement.now) (map statement_of c.in-Some.rest.now) (removed_in c.args.before) (added_in c.args.before) c.args.current.now before c.args.count.now c.run.new.count c.run.ensures.few state listed)

pub returns-in_err-all-clause-few : goal.returns-in_err-all-clause-few
returns-in_err-all-clause-few t c = λ columns narrow before state listed.
    let e : c.args.statements.now ≡ c.in-Some.statement.now ∷ c.in-Some.rest.now = c.in-Some.ensures.cases.0 in
    subst (λ ss. FewReadsEach (schema_in c.args.current.now) columns c.args.t (map statement_of ss) (removed_in c.args.before) (added_in c.args.before) state c.args.count.now c.run.new.count) (sym e)
    (few_first (schema_in c.args.current.now) columns c.args.t (statement_of c.in-Some.statement.now) (map statement_of c.in-Some.rest.now) (removed_in c.args.before) (added_in c.args.before) c.args.current.now before c.args.count.now c.run.new.count c.run.ensures.few state listed)

pub returns-in_err-then-in-Ok-clause-few : goal.returns-in_err-then-in-Ok-clause-few
returns-in_err-then-in-Ok-clause-few t c = λ columns narrow before state listed.
    let e : c.args.statements.now ≡ c.in-Some.statement.now ∷ c.in-Some.rest.now = c.in-Some.ensures.cases.0 in
    let narrow' = subst (λ ss. AllByRecursion (IsNarrow columns) (map statement_of ss)) e narrow in
    let rest = subst (λ x. (state : State) → AllListed (rows_of c.run.new.self) state → FewReadsEach x columns c.args.t (map statement_of c.in-Some.rest.now) (removed_in c.in_ok-all.all) (added_in c.in_ok-all.all) state c.run.new.count c.transact.new.count) c.run.ensures.schema
    (c.transact.ensures.few columns narrow'.1 (c.run.ensures.columns columns before narrow'.0)) in
    subst (λ ss. FewReadsEach (schema_in c.args.current.now) columns c.args.t (map statement_of ss) (removed_in c.args.before) (added_in c.args.before) state c.args.count.now c.transact.new.count) (sym e)
    (few_more (schema_in c.args.current.now) columns c.args.t (statement_of c.in-Some.statement.now) (map statement_of c.in-Some.rest.now) (removed_in c.args.before) (added_in c.args.before) c.args.current.now before c.args.count.now c.run.new.count c.run.ensures.few
    (rows_of c.run.new.self) (removed_in c.in_ok-touched.touched) (added_in c.in_ok-touched.touched) (removed_in c.in_ok-all.all) (added_in c.in_ok-all.all) c.transact.new.count c.in_ok-touched.ensures.ok c.in_ok-all.ensures.removed c.in_ok-all.ensures.added rest state listed)

pub returns-in_ok-then-in-Ok-clause-few : goal.returns-in_ok-then-in-Ok-clause-few
returns-in_ok-then-in-Ok-clause-few t c = λ columns narrow before state listed.
    let e : c.args.statements.now ≡ c.in-Some.statement.now ∷ c.in-Some.rest.now = c.in-Some.ensures.cases.0 in
    let narrow' = subst (λ ss. AllByRecursion (IsNarrow columns) (map statement_of ss)) e narrow in
    let rest = subst (λ x. (state : State) → AllListed (rows_of c.run.new.self) state → FewReadsEach x columns c.args.t (map statement_of c.in-Some.rest.now) (removed_in c.in_ok-all.all) (added_in c.in_ok-all.all) state c.run.new.count c.transact.new.count) c.run.ensures.schema
    (c.transact.ensures.few columns narrow'.1 (c.run.ensures.columns columns before narrow'.0)) in
    subst (λ ss. FewReadsEach (schema_in c.args.current.now) columns c.args.t (map statement_of ss) (removed_in c.args.before) (added_in c.args.before) state c.args.count.now c.transact.new.count) (sym e)
    (few_more (schema_in c.args.current.now) columns c.args.t (statement_of c.in-Some.statement.now) (map statement_of c.in-Some.rest.now) (removed_in c.args.before) (added_in c.args.before) c.args.current.now before c.args.count.now c.run.new.count c.run.ensures.few
    (rows_of c.run.new.self) (removed_in c.in_ok-touched.touched) (added_in c.in_ok-touched.touched) (removed_in c.in_ok-all.all) (added_in c.in_ok-all.all) c.transact.new.count c.in_ok-touched.ensures.ok c.in_ok-all.ensures.removed c.in_ok-all.ensures.added rest state listed)

pub returns-in_err-undo-in-Err-clause-few : goal.returns-in_err-undo-in-Err-clause-few
returns-in_err-undo-in-Err-clause-few t c = λ columns narrow before state listed.
    let e : c.args.statements.now ≡ c.in-Some.statement.now ∷ c.in-Some.rest.now = c.in-Some.ensures.cases.0 in
    let narrow' = subst (λ ss. AllByRecursion (IsNarrow columns) (map statement_of ss)) e narrow in
    let rest = subst (λ x. (state : State) → AllListed (rows_of c.run.new.self) state → FewReadsEach x columns c.args.t (map statement_of c.in-Some.rest.now) (removed_in c.in_ok-all.all) (added_in c.in_ok-all.all) state c.run.new.count c.transact.new.count) c.run.ensures.schema
    (c.transact.ensures.few columns narrow'.1 (c.run.ensures.columns columns before narrow'.0)) in
    let few = subst (λ x. FewToUndo (length x) (rows_of c.transact.new.current) (removed_in c.in_ok-touched.touched) (added_in c.in_ok-touched.touched) c.transact.new.count c.undo.new.count) (c.transact.ensures.schema ∙ c.run.ensures.schema) c.undo.ensures.few in
    subst (λ ss. FewReadsEach (schema_in c.args.current.now) columns c.args.t (map statement_of ss) (removed_in c.args.before) (added_in c.args.before) state c.args.count.now c.undo.new.count) (sym e)
    (few_undone (schema_in c.args.current.now) columns c.args.t (statement_of c.in-Some.statement.now) (map statement_of c.in-Some.rest.now) (removed_in c.args.before) (added_in c.args.before) c.args.current.now before c.args.count.now c.run.new.count c.run.ensures.few
    (rows_of c.run.new.self) (removed_in c.in_ok-touched.touched) (added_in c.in_ok-touched.touched) (removed_in c.in_ok-all.all) (added_in c.in_ok-all.all) c.transact.new.count c.in_ok-touched.ensures.ok c.in_ok-all.ensures.removed c.in_ok-all.ensures.added rest
    c.in-Err.refusal (rows_of c.transact.new.current) c.undo.new.count (λ h. both (c.is_no_memory.ensures.1 h) c.if-not-is_no_memory.true) c.in-Err.ensures.back few state listed)

pub returns-after-not-is_no_memory-clause-few : goal.returns-after-not-is_no_memory-clause-few
returns-after-not-is_no_memory-clause-few t c = λ columns narrow before state listed.
    let e : c.args.statements.now ≡ c.in-Some.statement.now ∷ c.in-Some.rest.now = c.in-Some.ensures.cases.0 in
    let narrow' = subst (λ ss. AllByRecursion (IsNarrow columns) (map statement_of ss)) e narrow in
    let rest = subst (λ x. (state : State) → AllListed (rows_of c.run.new.self) state → FewReadsEach x columns c.args.t (map statement_of c.in-Some.rest.now) (removed_in c.in_ok-all.all) (added_in c.in_ok-all.all) state c.run.new.count c.transact.new.count) c.run.ensures.schema
    (c.transact.ensures.few columns narrow'.1 (c.run.ensures.columns columns before narrow'.0)) in
    subst (λ ss. FewReadsEach (schema_in c.args.current.now) columns c.args.t (map statement_of ss) (removed_in c.args.before) (added_in c.args.before) state c.args.count.now c.if-not-is_no_memory.count) (sym e)
    (elim c.if-not-is_no_memory.branch [
      | then-not-is_no_memory+in_ok-undo-in-Err w ↦
          let few = subst (λ x. FewToUndo (length x) (rows_of c.transact.new.current) (removed_in c.in_ok-touched.touched) (added_in c.in_ok-touched.touched) c.transact.new.count w.undo.new.count) (c.transact.ensures.schema ∙ c.run.ensures.schema) w.undo.ensures.few in
          rw w.count-is (few_undone (schema_in c.args.current.now) columns c.args.t (statement_of c.in-Some.statement.now) (map statement_of c.in-Some.rest.now) (removed_in c.args.before) (added_in c.args.before) c.args.current.now before c.args.count.now c.run.new.count c.run.ensures.few
          (rows_of c.run.new.self) (removed_in c.in_ok-touched.touched) (added_in c.in_ok-touched.touched) (removed_in c.in_ok-all.all) (added_in c.in_ok-all.all) c.transact.new.count c.in_ok-touched.ensures.ok c.in_ok-all.ensures.removed c.in_ok-all.ensures.added rest
          c.in-Err.refusal (rows_of c.transact.new.current) w.undo.new.count (λ h. both (c.is_no_memory.ensures.1 h) w.if-not-is_no_memory.true) c.in-Err.ensures.back few state listed)
      | else-not-is_no_memory w ↦
          rw w.count-is (few_more (schema_in c.args.current.now) columns c.args.t (statement_of c.in-Some.statement.now) (map statement_of c.in-Some.rest.now) (removed_in c.args.before) (added_in c.args.before) c.args.current.now before c.args.count.now c.run.new.count c.run.ensures.few
          (rows_of c.run.new.self) (removed_in c.in_ok-touched.touched) (added_in c.in_ok-touched.touched) (removed_in c.in_ok-all.all) (added_in c.in_ok-all.all) c.transact.new.count c.in_ok-touched.ensures.ok c.in_ok-all.ensures.removed c.in_ok-all.ensures.added rest state listed)
    ])

pub returns-in_err-touched-clause-narrow : goal.returns-in_err-touched-clause-narrow
returns-in_err-touched-clause-narrow t c = λ columns narrow before.
    let e : c.args.statements.now ≡ c.in-Some.statement.now ∷ c.in-Some.rest.now = c.in-Some.ensures.cases.0 in
    let narrow' = subst (λ ss. AllByRecursion (IsNarrow columns) (map statement_of ss)) e narrow in
    c.run.ensures.columns columns before narrow'.0

pub returns-in_err-all-clause-narrow : goal.returns-in_err-all-clause-narrow
returns-in_err-all-clause-narrow t c = λ columns narrow before.
    let e : c.args.statements.now ≡ c.in-Some.statement.now ∷ c.in-Some.rest.now = c.in-Some.ensures.cases.0 in
    let narrow' = subst (λ ss. AllByRecursion (IsNarrow columns) (map statement_of ss)) e narrow in
    c.run.ensures.columns columns before narrow'.0

pub returns-in_err-then-in-Ok-clause-narrow : goal.returns-in_err-then-in-Ok-clause-narrow
returns-in_err-then-in-Ok-clause-narrow t c = λ columns narrow before.
    let e : c.args.statements.now ≡ c.in-Some.statement.now ∷ c.in-Some.rest.now = c.in-Some.ensures.cases.0 in
    let narrow' = subst (λ ss. AllByRecursion (IsNarrow columns) (map statement_of ss)) e narrow in
    c.transact.ensures.narrow columns narrow'.1 (c.run.ensures.columns columns before narrow'.0)

pub returns-in_ok-then-in-Ok-clause-narrow : goal.returns-in_ok-then-in-Ok-clause-narrow
returns-in_ok-then-in-Ok-clause-narrow t c = λ columns narrow before.
    let e : c.args.statements.now ≡ c.in-Some.statement.now ∷ c.in-Some.rest.now = c.in-Some.ensures.cases.0 in
    let narrow' = subst (λ ss. AllByRecursion (IsNarrow columns) (map statement_of ss)) e narrow in
    c.transact.ensures.narrow columns narrow'.1 (c.run.ensures.columns columns before narrow'.0)

pub returns-in_err-undo-in-Err-clause-narrow : goal.returns-in_err-undo-in-Err-clause-narrow
returns-in_err-undo-in-Err-clause-narrow t c = λ columns narrow before.
    let e : c.args.statements.now ≡ c.in-Some.statement.now ∷ c.in-Some.rest.now = c.in-Some.ensures.cases.0 in
    let narrow' = subst (λ ss. AllByRecursion (IsNarrow columns) (map statement_of ss)) e narrow in
    λ n. c.undo.ensures.columns n (columns n) (c.transact.ensures.narrow columns narrow'.1 (c.run.ensures.columns columns before narrow'.0) n)
    (λ r has. let most = removed_within c.row_laws.ensures.listed c.row_laws.ensures.within c.row_laws.ensures.state c.args.t (statement_of c.in-Some.statement.now) c.args.current.now (rows_of c.run.new.self) (removed_in c.in_ok-touched.touched) (added_in c.in_ok-touched.touched) c.in_ok-touched.ensures.ok n r has in let b = before n in omega (arith, most, b))

pub returns-after-not-is_no_memory-clause-narrow : goal.returns-after-not-is_no_memory-clause-narrow
returns-after-not-is_no_memory-clause-narrow t c = λ columns narrow before.
    let e : c.args.statements.now ≡ c.in-Some.statement.now ∷ c.in-Some.rest.now = c.in-Some.ensures.cases.0 in
    let narrow' = subst (λ ss. AllByRecursion (IsNarrow columns) (map statement_of ss)) e narrow in
    elim c.if-not-is_no_memory.branch [
      | then-not-is_no_memory+in_ok-undo-in-Err w ↦ rw w.current-is (λ n. w.undo.ensures.columns n (columns n) (c.transact.ensures.narrow columns narrow'.1 (c.run.ensures.columns columns before narrow'.0) n)
          (λ r has. let most = removed_within c.row_laws.ensures.listed c.row_laws.ensures.within c.row_laws.ensures.state c.args.t (statement_of c.in-Some.statement.now) c.args.current.now (rows_of c.run.new.self) (removed_in c.in_ok-touched.touched) (added_in c.in_ok-touched.touched) c.in_ok-touched.ensures.ok n r has in let b = before n in omega (arith, most, b)))
      | else-not-is_no_memory w ↦ rw w.current-is (c.transact.ensures.narrow columns narrow'.1 (c.run.ensures.columns columns before narrow'.0))
    ]
