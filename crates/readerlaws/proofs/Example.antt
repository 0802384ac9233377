-- The worked example: what its texts say, and what they leave.
use Rattle.std.proofs.Common.{◌≡◌, ℕ, pos, inl, inr, false, List, [], ◌∷◌, map, length, Some, None, Result, Ok, Err, refl, sym, ap, ◌∙◌, subst}
use Rattle.std.specs.Prelude.{codes, nat_lt}
use Rattle.std.specs.List.{AllByRecursion}
use Rattle.std.specs.Result.{result_unwrap_or}
use Rattle.std.proofs.lemmas.Bool.{cond-false}
use Rattle.fault.specs.declared.refusal.Refusal.{Refusal}
use Rattle.fault.specs.declared.refusal.Refusal.TheVariants.{KeyOverlap}
use Rattle.model.specs.declared.value.Value.TheVariants.{Number}
use Rattle.model.specs.declared.entry.Entry.{Entry}
use Rattle.model.specs.declared.entry.Request.{Request}
use Rattle.model.specs.Values.{same_key, key_cmp}
use Rattle.model.specs.Tables.{Table, Row}
use Rattle.model.specs.Transactions.{Statement, and_then}
use Rattle.model.specs.Logs.{executed, outcome, state_after, state_at}
use Rattle.rowlaws.specs.Rows.{Lists, EachListed}
use Rattle.rowlaws.specs.Cutting.{cut_rows}
use Rattle.rowlaws.specs.Changes.{rows_changed}
use Rattle.rowlaws.specs.Statements.{Rows, with_rows, run_all_on_rows, AllListed}
use Rattle.rowlaws.specs.Covering.{missing_in_rows, rows_orphan}
use Rattle.rowlaws.specs.Transactions.{all_in_order, rows_unless_orphan, rows_transacted, rows_executed}
use Rattle.rowlaws.specs.Logs.{FineLogs, LogsOnRows, OutcomesOnRows, next_rows, rows_after, rows_outcome_at}
use Rattle.rowlaws.proofs.Contents.{has_contains, contains_has}
use Rattle.sqltokens.specs.What.{What}
use Rattle.sqltokens.specs.Classes.{digits, texts, dates}
use Rattle.sqltokens.specs.Lexing.{token_of, keyword_of, one_sign, two_sign, closes}
use Rattle.namesyntax.specs.Names.{names, another_name, name_list}
use Rattle.namesyntax.specs.Parsing.{parsed}
use Rattle.sqlsyntax.specs.declared.forms.Operator.TheVariants.{Equal}
use Rattle.sqlsyntax.specs.Shared.{operators, date, literal, comparison, comparisons, condition}
use Rattle.sqlsyntax.specs.Transactions.{StatementForm, another_literal, literals, portion, new_value, assignment, assignments, insert, update, statement, statements}
use Rattle.sqlchecks.specs.declared.field.Field.TheVariants.{Key}
use Rattle.sqlchecks.specs.Answering.{◌>>=◌}
use Rattle.sqlchecks.specs.Literals.{signed, day_named, period_named, literal_in}
use Rattle.sqlchecks.specs.Columns.{table_named, column_named, field_at, kept_at}
use Rattle.sqlchecks.specs.Comparisons.{comparison_in, comparisons_in, compares, passes_all}
use Rattle.sqlread.specs.declared.statement.NewValue.TheVariants.{Literal}
use Rattle.sqlread.specs.Shapes.{StatementShape, Insert, Update}
use Rattle.sqlread.specs.Changes.{in_table, listed, list_in, given, values_in, value_given, day_given, row_given, insert_into, insert_in, portion_in, assignable, new_value_in, assignment_in, update_in, statement_in, statements_in}
use Rattle.sqlread.specs.Texts.{transaction_in}
use Rattle.sqlread.specs.Meaning.{new_value as value_of, set_at, set_of, meaning, meanings, language_of}
use Rattle.rowtext.specs.Spacing.{token_text}
use Rattle.rowtext.specs.Again.{IsWritten, lines, ReadsWhatIsWritten}
use Rattle.apply.specs.Laws.{TextsFine}
use Rattle.period.specs.Laws.{DayTexts, OneDay}
use Rattle.readerlaws.proofs.Dates.{first_day, second_day, third_day, last_day}
use Rattle.readerlaws.specs.Example.{emp, hires, lends, his, HasRows, ByExample}

-- ---- what the texts spell

hire : StatementForm
hire = inl (codes "Emp", (codes "ENo" ∷ codes "EStart" ∷ codes "EEnd" ∷ codes "EDept" ∷ [], inr (inr (None, codes "22217")) ∷ inl (codes "2010-01-01") ∷ inl (codes "2011-11-12") ∷ inr (inr (None, codes "3")) ∷ []))

lend : StatementForm
lend = inr (inl (codes "Emp", (Some (codes "EPeriod", (codes "2011-02-03", codes "2011-09-10")), ((codes "EDept", inr (inr (inr (None, codes "4")))) ∷ [], Some ((codes "ENo", (Equal, inr (inr (None, codes "22217")))) ∷ [])))))

hire_fits : statements.fits (hire ∷ [])
unfolding hire statements statement insert names name_list another_name literals another_literal literal date dates digits texts
hire_fits = (((refl, (((refl, (refl, (refl, (refl, tt)))), refl), (((tt, tt), (refl, (refl, ((tt, tt), tt)))), refl))), tt), refl)

lend_fits : statements.fits (lend ∷ [])
unfolding lend statements statement update portion names assignments assignment new_value condition comparisons comparison operators literal date dates digits texts
lend_fits = (((refl, ((refl, (refl, refl)), ((((refl, (tt, tt)), tt), refl), (((refl, (tt, (tt, tt))), tt), refl)))), tt), refl)

all_written : (ts : List What) → map (λ t. token_of (token_text t)) ts ≡ map (λ t. Some t) ts → AllByRecursion IsWritten ts
all_written [] e = tt
all_written (t ∷ ts) e =
    let one : token_of (token_text t) ≡ Some t = cc in
    let rest : map (λ t. token_of (token_text t)) ts ≡ map (λ t. Some t) ts = cc in
    (one, all_written ts rest)

hire_written : AllByRecursion (AllByRecursion IsWritten) (map statement.spell (hire ∷ []))
unfolding hire statement insert names name_list another_name literals another_literal literal date dates digits texts token_of keyword_of one_sign two_sign closes
hire_written = (all_written (statement.spell hire) refl, tt)

lend_written : AllByRecursion (AllByRecursion IsWritten) (map statement.spell (lend ∷ []))
unfolding lend statement update portion names assignments assignment new_value condition comparisons comparison operators literal date dates digits texts token_of keyword_of one_sign two_sign closes
lend_written = (all_written (statement.spell lend) refl, tt)

hire_text : lines (map statement.spell (hire ∷ [])) ≡ hires
unfolding hire statement insert names name_list another_name literals another_literal literal date dates digits texts
hire_text = refl

lend_text : lines (map statement.spell (lend ∷ [])) ≡ lends
unfolding lend statement update portion names assignments assignment new_value condition comparisons comparison operators literal date dates digits texts
lend_text = refl

-- ---- what they say

hired : StatementShape
hired = Insert (record { table = 0; key = Number (pos 22217) ∷ []; values = Number (pos 3) ∷ []; period = record { start = 733772; end = 734452 } })

lent : StatementShape
lent = Update (record {
  table = 0;
  portion = Some (record { start = 734170; end = 734389 });
  assignments = record { place = 0; value = Literal (Number (pos 4)) } ∷ [];
  conditions = record { field = Key 0; operator = Equal; value = Number (pos 22217) } ∷ [];
})

hire_checked : day_named (codes "2010-01-01") ≡ Ok 733772 → day_named (codes "2011-11-12") ≡ Ok 734452 → statements_in emp (hire ∷ []) ≡ Ok (hired ∷ [])
unfolding hire hired emp statements_in statement_in insert_in in_table table_named insert_into list_in listed column_named values_in given literal_in signed row_given value_given day_given
hire_checked from to = rw (from, to) refl

lend_checked : day_named (codes "2011-02-03") ≡ Ok 734170 → day_named (codes "2011-09-10") ≡ Ok 734389 → statements_in emp (lend ∷ []) ≡ Ok (lent ∷ [])
unfolding lend lent emp statements_in statement_in update_in in_table table_named portion_in period_named assignment_in assignable new_value_in column_named field_at literal_in signed comparisons_in comparison_in
lend_checked from to = rw (from, to) refl

says : (text : List ℕ) (forms : List StatementForm) (shapes : List StatementShape) → nat_lt 4096 (length text) ≡ false → parsed statements text ≡ Ok forms → statements_in emp forms ≡ Ok shapes →
    (language_of emp).reads text ≡ Ok (map meaning shapes)
unfolding language_of transaction_in
says text forms shapes short p c = ap meanings (cond-false _ _ _ short ∙ ap (λ r. r >>= statements_in emp) p ∙ c)

-- ---- what they leave on lists of rows

missing_none : (all : Rows) (n : ℕ) (rows : List Row) → missing_in_rows [] all n rows ≡ None
missing_none all n [] = refl
missing_none all n (r ∷ rows) = missing_none all n rows

no_orphan : (all : Rows) → rows_orphan (language_of emp) all ≡ None
unfolding rows_orphan language_of emp
no_orphan all = rw (missing_none all 0 (all 0)) refl

runs : (t : ℕ) (text : List ℕ) (ss : List Statement) (all next : Rows) → (language_of emp).reads text ≡ Ok ss → run_all_on_rows t ss all ≡ Ok next → rows_executed (language_of emp) t text all ≡ Ok next
unfolding rows_executed rows_transacted
runs t text ss all next r e =
    ap (λ (x : Result (List Statement) Refusal). rows_transacted (language_of emp) t (result_unwrap_or x []) all) r
    ∙ ap (λ (x : Result Rows Refusal). and_then x (λ next. rows_unless_orphan (language_of emp) next (rows_orphan (language_of emp) (all_in_order next)))) e
    ∙ ap (rows_unless_orphan (language_of emp) next) (no_orphan (all_in_order next))

fails : (t : ℕ) (text : List ℕ) (ss : List Statement) (all : Rows) (r : Refusal) → (language_of emp).reads text ≡ Ok ss → run_all_on_rows t ss all ≡ Err r → rows_executed (language_of emp) t text all ≡ Err r
unfolding rows_executed rows_transacted
fails t text ss all r s e =
    ap (λ (x : Result (List Statement) Refusal). rows_transacted (language_of emp) t (result_unwrap_or x []) all) s
    ∙ ap (λ (x : Result Rows Refusal). and_then x (λ next. rows_unless_orphan (language_of emp) next (rows_orphan (language_of emp) (all_in_order next)))) e

abbrev none : Rows
none = λ n. []

abbrev one : Rows
one = with_rows 0 none (his 733772 734452 3 101 ∷ [])

abbrev three : Rows
three = with_rows 0 one (his 733772 734170 3 102 ∷ his 734170 734389 4 102 ∷ his 734389 734452 3 102 ∷ [])

hire_runs : run_all_on_rows 101 (map meaning (hired ∷ [])) none ≡ Ok one
unfolding hired rows_changed
hire_runs = refl

lend_runs : run_all_on_rows 102 (map meaning (lent ∷ [])) one ≡ Ok three
unfolding lent rows_changed cut_rows same_key key_cmp passes_all compares kept_at set_of set_at value_of
lend_runs = refl

hire_fails : run_all_on_rows 103 (map meaning (hired ∷ [])) three ≡ Err KeyOverlap
unfolding hired rows_changed same_key key_cmp
hire_fails = refl

-- ---- the log

abbrev first : List Entry
first = record { term = 1; stamp = 101; request = Some (record { client = 7; number = 1; text = hires }) } ∷ []

abbrev both : List Entry
both = record { term = 1; stamp = 102; request = Some (record { client = 7; number = 2; text = lends }) } ∷ first

has_rows : EachListed → (rows : List Row) (table : Table) → Lists rows table → HasRows table rows
has_rows law rows table l row = ((λ r. has_contains rows row (law rows table row l r)), (λ h. l.each row (contains_has rows row h)))

module _ (read_hires : (language_of emp).reads hires ≡ Ok (map meaning (hired ∷ []))) (read_lends : (language_of emp).reads lends ≡ Ok (map meaning (lent ∷ []))) where
  first_rows : rows_after (language_of emp) first ≡ one
  unfolding rows_after executed
  first_rows = ap (next_rows none) (runs 101 hires (map meaning (hired ∷ [])) none one read_hires hire_runs)

  both_rows : rows_after (language_of emp) both ≡ three
  unfolding rows_after executed
  both_rows = ap (λ (all : Rows). next_rows all (rows_executed (language_of emp) 102 lends all)) first_rows ∙ ap (next_rows one) (runs 102 lends (map meaning (lent ∷ [])) one three read_lends lend_runs)

  module _ (fine : TextsFine) (logs : FineLogs) (on_rows : LogsOnRows) (outcomes : OutcomesOnRows) (listed : EachListed) where
    rows_at : (before : List Entry) (rows : Rows) → rows_after (language_of emp) before ≡ rows → AllListed rows (state_after (language_of emp) before)
    rows_at before rows e = subst (λ (all : Rows). AllListed all (state_after (language_of emp) before)) e (on_rows (language_of emp) before (logs (language_of emp) before (fine emp)))

    refused : outcome (language_of emp) 103 (record { client = 7; number = 3; text = hires }) both ≡ Err KeyOverlap
    unfolding outcome executed
    refused =
        let r : Request = record { client = 7; number = 3; text = hires } in
        sym (outcomes (language_of emp) 103 r both three (fine emp hires) (rows_at both three both_rows)) ∙ ap (rows_outcome_at 103) (fails 103 hires (map meaning (hired ∷ [])) three KeyOverlap read_hires hire_fails)

    example : ByExample
    unfolding state_at
    example = (
      has_rows listed (one 0) (state_after (language_of emp) first 0) (rows_at first one first_rows 0),
      has_rows listed (three 0) (state_after (language_of emp) both 0) (rows_at both three both_rows 0),
      refused,
    )

pub by_example : DayTexts → OneDay → ReadsWhatIsWritten → TextsFine → FineLogs → LogsOnRows → OutcomesOnRows → EachListed → ByExample
by_example printed single written fine logs on_rows outcomes listed =
    let hire_parsed : parsed statements hires ≡ Ok (hire ∷ []) = ap (parsed statements) (sym hire_text) ∙ written (hire ∷ []) hire_fits hire_written in
    let lend_parsed : parsed statements lends ≡ Ok (lend ∷ []) = ap (parsed statements) (sym lend_text) ∙ written (lend ∷ []) lend_fits lend_written in
    example (says hires (hire ∷ []) (hired ∷ []) refl hire_parsed (hire_checked (first_day printed single) (last_day printed single)))
    (says lends (lend ∷ []) (lent ∷ []) refl lend_parsed (lend_checked (second_day printed single) (third_day printed single)))
    fine logs on_rows outcomes listed
