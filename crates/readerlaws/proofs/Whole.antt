-- The tables of a list of entries arise, and no filled day lacks a parent.
use Rattle.std.proofs.Common.{◌≡◌, ℕ, Bool, true, false, cond, ◌==◌, List, [], ◌∷◌, reverse, filter, Option, Some, None, Result, Ok, Err, refl, sym, ap, ◌∙◌, subst}
use Rattle.std.specs.Prelude.{nat_le, nat_lt}
use Rattle.std.specs.Option.{option_map_or}
use Rattle.std.specs.Result.{result_unwrap_or}
use Rattle.fault.specs.declared.refusal.Refusal.{Refusal}
use Rattle.fault.specs.declared.refusal.Refusal.TheVariants.{RowLimit}
use Rattle.model.specs.declared.entry.Entry.{Entry}
use Rattle.model.specs.declared.entry.Request.{Request}
use Rattle.model.specs.Tables.{Table, Row}
use Rattle.model.specs.Statements.{row_count}
use Rattle.model.specs.Transactions.{State, Statement, Language, Place, changed, and_then, within_limit, with_table, run_statement, run_statements, first_orphan, unless_orphan, transacted, executed_text}
use Rattle.model.specs.Logs.{is_first, state_after, state_at}
use Rattle.rowlaws.specs.Statements.{AreFine}
use Rattle.rowlaws.specs.Covering.{References}
use Rattle.rowlaws.specs.Logs.{ReadsFine, FineLogs, LogsOnRows, rows_after}
use Rattle.rowlaws.specs.Whole.{NoneAccepted, NoOrphanAfter}
use Rattle.rowlaws.specs.Changes.{ActionOnRows}
use Rattle.rowlaws.specs.Rows.{Lists}
use Rattle.sqlread.specs.Meaning.{language_of}
use Rattle.apply.specs.Laws.{TextsFine}
use Rattle.readerlaws.specs.Laws.{Arises, Empty, Changed, NoOrphans, OrphansAreRefused, TablesArise}
use Rattle.readerlaws.proofs.Tables.{arises_lists}

abbrev AllArise : State → Type 0
AllArise state = (n : ℕ) → Arises (state n)

ok_then : {A B : Type 0} (x : Result A Refusal) (f : A → Result B Refusal) (b : B) → and_then x f ≡ Ok b → (a : A) × (x ≡ Ok a) × (f a ≡ Ok b)
ok_then (Ok a) f b e = (a, refl, e)
ok_then (Err r) f b e = absurd (cc)

under_limit : (b : Bool) (x y : Table) → cond b (Err RowLimit) (Ok x) ≡ Ok y → x ≡ y
under_limit true x y e = absurd (cc)
under_limit false x y e = cc

arises_with : (n : ℕ) (state : State) (table : Table) → AllArise state → Arises table → AllArise (with_table n state table)
arises_with n state table all a m = by (m == n)
  where
    by : (b : Bool) → Arises (cond b table (state m))
    by true = a
    by false = all m

statement_arises : (t : ℕ) (s : Statement) (ss : List Statement) (state next : State) → AreFine (s ∷ ss) → AllArise state → run_statement t s state ≡ Ok next → AllArise next
statement_arises t s ss state next fine all e =
    let x = ok_then (and_then (changed s.action t (state s.table)) within_limit) (λ table. Ok (with_table s.table state table)) next e in
    let y = ok_then (changed s.action t (state s.table)) within_limit x.0 x.1 in
    let same : y.0 ≡ x.0 = under_limit (nat_lt 20000 (row_count y.0)) y.0 x.0 y.2 in
    let a : Arises x.0 = subst Arises same (Changed s.action t (state s.table) y.0 fine.0 (all s.table) y.1) in
    let is : with_table s.table state x.0 ≡ next = (let q = x.2 in cc) in
    subst AllArise is (arises_with s.table state x.0 all a)

statements_arise : (t : ℕ) (ss : List Statement) (state next : State) → AreFine ss → AllArise state → run_statements t ss state ≡ Ok next → AllArise next
statements_arise t [] state next fine all e = let is : state ≡ next = cc in subst AllArise is all
statements_arise t (s ∷ ss) state next fine all e =
    let x = ok_then (run_statement t s state) (run_statements t ss) next e in
    statements_arise t ss x.0 next fine.1 (statement_arises t s ss state x.0 fine all x.1) x.2

unless : (language : Language) (state next : State) (o : Option Place) → unless_orphan language state o ≡ Ok next → state ≡ next
unless language state next None e = cc
unless language state next (Some p) e = absurd (cc)

transaction_arises : (language : Language) (t : ℕ) (ss : List Statement) (state next : State) → AreFine ss → AllArise state → transacted language t ss state ≡ Ok next → AllArise next
unfolding transacted
transaction_arises language t ss state next fine all e =
    let x = ok_then (run_statements t ss state) (λ (s : State). unless_orphan language s (first_orphan language s)) next e in
    subst AllArise (unless language x.0 next (first_orphan language x.0) x.2) (statements_arise t ss state x.0 fine all x.1)

text_arises : (language : Language) (t : ℕ) (text : List ℕ) (state : State) → ReadsFine language → AllArise state → AllArise (result_unwrap_or (executed_text language t text state) state)
unfolding executed_text
text_arises language t text state fine all = by (transacted language t (result_unwrap_or (language.reads text) []) state) refl
  where
    by : (x : Result State Refusal) → transacted language t (result_unwrap_or (language.reads text) []) state ≡ x → AllArise (result_unwrap_or x state)
    by (Ok next) e = transaction_arises language t (result_unwrap_or (language.reads text) []) state next (fine text) all e
    by (Err r) e = all

entry_arises : (language : Language) (t : ℕ) (o : Option Request) (before : List Entry) (state : State) → ReadsFine language → AllArise state →
    AllArise (option_map_or (λ r. cond (is_first r before) (result_unwrap_or (executed_text language t r.text state) state) state) o state)
entry_arises language t None before state fine all = all
entry_arises language t (Some r) before state fine all = by (is_first r before)
  where
    by : (b : Bool) → AllArise (cond b (result_unwrap_or (executed_text language t r.text state) state) state)
    by true = text_arises language t r.text state fine all
    by false = all

all_arise : (language : Language) (before : List Entry) → ReadsFine language → AllArise (state_after language before)
unfolding state_after
all_arise language [] fine = λ n. Empty
all_arise language (e ∷ before) fine = entry_arises language e.stamp e.request before (state_after language before) fine (all_arise language before fine)

pub tables_arise : TextsFine → TablesArise
unfolding state_at
tables_arise fine tables list u n = all_arise (language_of tables) (reverse (filter (λ e. nat_le e.stamp u) list)) (fine tables) n

pub no_orphans : TextsFine → FineLogs → LogsOnRows → NoOrphanAfter → References → NoOrphans
unfolding state_at
no_orphans fine logs on_rows none hold tables list u =
    let language = language_of tables in
    let before = reverse (filter (λ (e : Entry). nat_le e.stamp u) list) in
    (hold language (rows_after language before) (state_after language before) (on_rows language before (logs language before (fine tables)))).0 (none language before)

-- ---- a transaction is refused for a day without a parent, or not at all

transacted_is : (language : Language) (t : ℕ) (ss : List Statement) (before next : State) → run_statements t ss before ≡ Ok next → transacted language t ss before ≡ unless_orphan language next (first_orphan language next)
unfolding transacted
transacted_is language t ss before next e = ap (λ (x : Result State Refusal). and_then x (λ (s : State). unless_orphan language s (first_orphan language s))) e

pub orphans_are_refused : ActionOnRows → References → NoneAccepted → OrphansAreRefused
orphans_are_refused law hold none language t ss before next fine all e =
    let after = statements_arise t ss before next fine all e in
    let lists : (n : ℕ) → (rows : List Row) × Lists rows (next n) = λ n. arises_lists law (next n) (after n) in
    let holds = hold language (λ n. (lists n).0) next (λ n. (lists n).1) in
    let is = transacted_is language t ss before next e in
    ((λ o. holds.0 (none language next next (sym is ∙ o))), (λ h. is ∙ ap (unless_orphan language next) (holds.1 h)))
