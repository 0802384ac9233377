use Rattle.std.specs.List.{AllByRecursion}
use Rattle.std.specs.Result.{result_unwrap_or}
use Rattle.std.proofs.Common.{◌≡◌, Ok, map, length, refl, ap, ◌∙◌, sym, subst, [], inl, inr, arith}
use Rattle.rowlaws.specs.Whole.{ComesFromWhole}
use Rattle.rowlaws.proofs.RowFacts.{both}
use Rattle.sqlread.specs.Meaning.{language_of, meaning}
use Rattle.sqlread.specs.Shapes.{statement_of}
use Rattle.current.specs.Current.{rows_of, schema_in, table_count}
use Rattle.current.specs.Places.{rows_at}
use Rattle.current.specs.Touched.{removed_of, added_of, removed_in, added_in}
use Rattle.sqlchecks.specs.Columns.{Tables}
use Rattle.model.specs.Transactions.{transacted}
use Rattle.sysversion.specs.Reads.{rows_gone}
use Rattle.sysversion.specs.Versions.{versions_of, table_count as table_count'}
use Rattle.sqlread.specs.Texts.{transaction_in}
use Rattle.current.specs.Current.{IsNarrow}
use Rattle.apply.specs.Reads.{key_columns, FewReadsEach}
use Rattle.apply.proofs.Transacted.{said_is, accepted, refused}
use Rattle.apply.proofs.Reading.{few_none}
use Rattle.apply.proofs.Widths.{all_narrow}
use Rattle.apply.proofs.executing.execute.Goals as goal

pub returns-in-Ok-clause-executed : goal.returns-in-Ok-clause-executed
returns-in-Ok-clause-executed c = λ state listed same none.
    let schema = language_of (schema_in c.args.current.now) in
    let whole = subst (λ xs. ComesFromWhole schema (rows_of c.args.current.now) (rows_at removed_of xs) (rows_at added_of xs)) (sym c.new-tables.ensures.items) (c.whole_itself.ensures schema (rows_of c.args.current.now) state listed none) in
    let shapes = ap (λ xs. map statement_of xs) c.as_slice.ensures.value ∙ c.in_ok-statements.ensures ∙ ap (λ tables. result_unwrap_or (transaction_in tables c.args.text.now) []) c.schema.ensures in
    let e = said_is (schema_in c.args.current.now) c.args.text.now (map statement_of c.as_slice.result.now) shapes in
    accepted c.nothing_beyond.ensures schema c.args.t c.args.text.now (map meaning (map statement_of c.as_slice.result.now)) (rows_of c.args.current.now) (rows_of c.transact.new.current) c.in-Ok.touched c.args.versions.now c.commit.new.self (table_count c.args.current.now)
    e (c.in-Ok.ensures.ok whole) c.in-Ok.ensures.tables (ap length c.commit.ensures.schema) c.in_ok-commit-in-Ok.ensures.ok state listed (ap length same)

pub returns-clause-executed : goal.returns-clause-executed
returns-clause-executed c = λ state listed same none.
    let schema = language_of (schema_in c.args.current.now) in
    let whole = subst (λ xs. ComesFromWhole schema (rows_of c.args.current.now) (rows_at removed_of xs) (rows_at added_of xs)) (sym c.new-tables.ensures.items) (c.whole_itself.ensures schema (rows_of c.args.current.now) state listed none) in
    let shapes = ap (λ xs. map statement_of xs) c.as_slice.ensures.value ∙ c.in_ok-statements.ensures ∙ ap (λ tables. result_unwrap_or (transaction_in tables c.args.text.now) []) c.schema.ensures in
    let e = said_is (schema_in c.args.current.now) c.args.text.now (map statement_of c.as_slice.result.now) shapes in
    refused schema c.args.t c.args.text.now (map meaning (map statement_of c.as_slice.result.now)) (rows_of c.args.current.now) (rows_of c.transact.new.current) c.args.versions.now c.in-Err.refusal
    e (c.in-Err.ensures.err whole) (λ h. both (c.is_no_memory.ensures.1 h) c.if-is_no_memory.false) state listed

pub returns-in_err-statements-clause-few : goal.returns-in_err-statements-clause-few
returns-in_err-statements-clause-few c = λ narrow state listed same none history bound held.
    let schema = schema_in c.args.current.now in
    (c.args.count.now, few_none schema (key_columns schema) c.args.t (result_unwrap_or (transaction_in schema c.args.text.now) []) (λ n. []) (λ n. []) (rows_of c.args.current.now) c.args.count.now state listed, inl refl)

pub returns-in-Ok-clause-few : goal.returns-in-Ok-clause-few
returns-in-Ok-clause-few c = λ narrow state listed same none history bound held.
    let schema = schema_in c.args.current.now in
    let shapes = ap (λ xs. map statement_of xs) c.as_slice.ensures.value ∙ c.in_ok-statements.ensures ∙ ap (λ tables. result_unwrap_or (transaction_in tables c.args.text.now) []) c.schema.ensures in
    let wide = subst (AllByRecursion (IsNarrow (key_columns schema))) (sym shapes) (all_narrow schema c.args.text.now) in
    let few = c.transact.ensures.few (key_columns schema) wide narrow state listed in
    let from = subst (λ xs. FewReadsEach schema (key_columns schema) c.args.t (map statement_of c.as_slice.result.now) (rows_at removed_of xs) (rows_at added_of xs) state c.args.count.now c.transact.new.count) c.new-tables.ensures.items few in
    let each = subst (λ ss. FewReadsEach schema (key_columns schema) c.args.t ss (λ n. []) (λ n. []) state c.args.count.now c.transact.new.count) shapes from in
    let language = language_of schema in
    let whole = subst (λ xs. ComesFromWhole language (rows_of c.args.current.now) (rows_at removed_of xs) (rows_at added_of xs)) (sym c.new-tables.ensures.items) (c.whole_itself.ensures language (rows_of c.args.current.now) state listed none) in
    let d = c.in-Ok.ensures.ok whole state listed in
    let few' = c.one_for_each_row.ensures (table_count' c.args.versions.now) (versions_of c.args.versions.now) history bound state (removed_in c.in-Ok.touched) held in
    let read = c.commit.ensures.few in
    let same' = ap (λ (tables : Tables). rows_gone (length tables) (removed_in c.in-Ok.touched)) same in
    (c.transact.new.count, each, inr (d.0, removed_in c.in-Ok.touched, added_in c.in-Ok.touched, subst (λ ss. transacted language c.args.t (map meaning ss) state ≡ Ok d.0) shapes d.1, d.3, omega (arith, few', read, same')))

pub returns-in_err-commit-in-Ok-clause-few : goal.returns-in_err-commit-in-Ok-clause-few
returns-in_err-commit-in-Ok-clause-few c = λ narrow state listed same none history bound held.
    let schema = schema_in c.args.current.now in
    let shapes = ap (λ xs. map statement_of xs) c.as_slice.ensures.value ∙ c.in_ok-statements.ensures ∙ ap (λ tables. result_unwrap_or (transaction_in tables c.args.text.now) []) c.schema.ensures in
    let wide = subst (AllByRecursion (IsNarrow (key_columns schema))) (sym shapes) (all_narrow schema c.args.text.now) in
    let few = c.transact.ensures.few (key_columns schema) wide narrow state listed in
    let from = subst (λ xs. FewReadsEach schema (key_columns schema) c.args.t (map statement_of c.as_slice.result.now) (rows_at removed_of xs) (rows_at added_of xs) state c.args.count.now c.transact.new.count) c.new-tables.ensures.items few in
    let each = subst (λ ss. FewReadsEach schema (key_columns schema) c.args.t ss (λ n. []) (λ n. []) state c.args.count.now c.transact.new.count) shapes from in
    let language = language_of schema in
    let whole = subst (λ xs. ComesFromWhole language (rows_of c.args.current.now) (rows_at removed_of xs) (rows_at added_of xs)) (sym c.new-tables.ensures.items) (c.whole_itself.ensures language (rows_of c.args.current.now) state listed none) in
    let d = c.in-Ok.ensures.ok whole state listed in
    let few' = c.one_for_each_row.ensures (table_count' c.args.versions.now) (versions_of c.args.versions.now) history bound state (removed_in c.in-Ok.touched) held in
    let read = c.commit.ensures.few in
    let same' = ap (λ (tables : Tables). rows_gone (length tables) (removed_in c.in-Ok.touched)) same in
    (c.transact.new.count, each, inr (d.0, removed_in c.in-Ok.touched, added_in c.in-Ok.touched, subst (λ ss. transacted language c.args.t (map meaning ss) state ≡ Ok d.0) shapes d.1, d.3, omega (arith, few', read, same')))

pub returns-then-is_no_memory-clause-few : goal.returns-then-is_no_memory-clause-few
returns-then-is_no_memory-clause-few c = λ narrow state listed same none history bound held.
    let schema = schema_in c.args.current.now in
    let shapes = ap (λ xs. map statement_of xs) c.as_slice.ensures.value ∙ c.in_ok-statements.ensures ∙ ap (λ tables. result_unwrap_or (transaction_in tables c.args.text.now) []) c.schema.ensures in
    let wide = subst (AllByRecursion (IsNarrow (key_columns schema))) (sym shapes) (all_narrow schema c.args.text.now) in
    let few = c.transact.ensures.few (key_columns schema) wide narrow state listed in
    let from = subst (λ xs. FewReadsEach schema (key_columns schema) c.args.t (map statement_of c.as_slice.result.now) (rows_at removed_of xs) (rows_at added_of xs) state c.args.count.now c.transact.new.count) c.new-tables.ensures.items few in
    (c.transact.new.count, subst (λ ss. FewReadsEach schema (key_columns schema) c.args.t ss (λ n. []) (λ n. []) state c.args.count.now c.transact.new.count) shapes from, inl refl)

pub returns-clause-few : goal.returns-clause-few
returns-clause-few c = λ narrow state listed same none history bound held.
    let schema = schema_in c.args.current.now in
    let shapes = ap (λ xs. map statement_of xs) c.as_slice.ensures.value ∙ c.in_ok-statements.ensures ∙ ap (λ tables. result_unwrap_or (transaction_in tables c.args.text.now) []) c.schema.ensures in
    let wide = subst (AllByRecursion (IsNarrow (key_columns schema))) (sym shapes) (all_narrow schema c.args.text.now) in
    let few = c.transact.ensures.few (key_columns schema) wide narrow state listed in
    let from = subst (λ xs. FewReadsEach schema (key_columns schema) c.args.t (map statement_of c.as_slice.result.now) (rows_at removed_of xs) (rows_at added_of xs) state c.args.count.now c.transact.new.count) c.new-tables.ensures.items few in
    (c.transact.new.count, subst (λ ss. FewReadsEach schema (key_columns schema) c.args.t ss (λ n. []) (λ n. []) state c.args.count.now c.transact.new.count) shapes from, inl refl)

pub returns-in-Ok-clause-narrow : goal.returns-in-Ok-clause-narrow
returns-in-Ok-clause-narrow c = λ narrow.
    let schema = schema_in c.args.current.now in
    let shapes = ap (λ xs. map statement_of xs) c.as_slice.ensures.value ∙ c.in_ok-statements.ensures ∙ ap (λ tables. result_unwrap_or (transaction_in tables c.args.text.now) []) c.schema.ensures in
    let wide = subst (AllByRecursion (IsNarrow (key_columns schema))) (sym shapes) (all_narrow schema c.args.text.now) in
    c.transact.ensures.narrow (key_columns schema) wide narrow

pub returns-in_err-commit-in-Ok-clause-narrow : goal.returns-in_err-commit-in-Ok-clause-narrow
returns-in_err-commit-in-Ok-clause-narrow c = λ narrow.
    let schema = schema_in c.args.current.now in
    let shapes = ap (λ xs. map statement_of xs) c.as_slice.ensures.value ∙ c.in_ok-statements.ensures ∙ ap (λ tables. result_unwrap_or (transaction_in tables c.args.text.now) []) c.schema.ensures in
    let wide = subst (AllByRecursion (IsNarrow (key_columns schema))) (sym shapes) (all_narrow schema c.args.text.now) in
    c.transact.ensures.narrow (key_columns schema) wide narrow

pub returns-then-is_no_memory-clause-narrow : goal.returns-then-is_no_memory-clause-narrow
returns-then-is_no_memory-clause-narrow c = λ narrow.
    let schema = schema_in c.args.current.now in
    let shapes = ap (λ xs. map statement_of xs) c.as_slice.ensures.value ∙ c.in_ok-statements.ensures ∙ ap (λ tables. result_unwrap_or (transaction_in tables c.args.text.now) []) c.schema.ensures in
    let wide = subst (AllByRecursion (IsNarrow (key_columns schema))) (sym shapes) (all_narrow schema c.args.text.now) in
    c.transact.ensures.narrow (key_columns schema) wide narrow

pub returns-clause-narrow : goal.returns-clause-narrow
returns-clause-narrow c = λ narrow.
    let schema = schema_in c.args.current.now in
    let shapes = ap (λ xs. map statement_of xs) c.as_slice.ensures.value ∙ c.in_ok-statements.ensures ∙ ap (λ tables. result_unwrap_or (transaction_in tables c.args.text.now) []) c.schema.ensures in
    let wide = subst (AllByRecursion (IsNarrow (key_columns schema))) (sym shapes) (all_narrow schema c.args.text.now) in
    c.transact.ensures.narrow (key_columns schema) wide narrow
