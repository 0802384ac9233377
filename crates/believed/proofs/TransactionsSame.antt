-- A transaction comes to the same in both words.
use Rattle.std.proofs.Common.{◌≡◌, ℕ, ◌&&◌, Bool, true, false, cond, not, Option, Some, None, List, [], ◌∷◌, refl, ap, ◌∙◌, Result, Ok, Err}
use Rattle.std.specs.Prelude.{nat_lt, ◌==◌, is_some, is_none, find}
use Rattle.std.specs.List.{list_any}
use Rattle.std.specs.Option.{option_map_or}
use Rattle.std.specs.Result.{result_unwrap_or}
use Rattle.fault.specs.declared.refusal.Refusal.{Refusal}
use Rattle.fault.specs.declared.refusal.Refusal.TheVariants.{NoParent, RowLimit}
use Rattle.model.specs.Tables.{Table, Fact}
use Rattle.model.specs.Transactions.{State, Statement, Reference, Language, Place, places}
use Rattle.model.specs.Statements as statements
use Rattle.model.specs.Transactions as before
use Rattle.believed.specs.Results.{◌>>=◌, ◌>>◌, refuse_if, fold_ok}
use Rattle.believed.specs.Days.{key_text, day_text}
use Rattle.believed.specs.Statements.{changed, row_count}
use Rattle.believed.proofs.StatementsSame.{changed_same, count_same}
use Rattle.believed.specs.Transactions as now
use Rattle.believed.proofs.DaysSame.{key_same, day_same}

-- ---- statements

limit_cases : (b : Bool) (table : Table) (f : Table → State) →
    (refuse_if b RowLimit >> Ok (f table)) ≡ before.and_then (cond b (Err RowLimit) (Ok table)) (λ t. Ok (f t))
limit_cases true table f = refl
limit_cases false table f = refl

table_cases : (r : Result Table Refusal) (f : Table → State) →
    (r >>= λ table. refuse_if (nat_lt 20000 (row_count table)) RowLimit >> Ok (f table)) ≡ before.and_then (before.and_then r before.within_limit) (λ t. Ok (f t))
table_cases (Ok table) f = ap (λ n. refuse_if (nat_lt 20000 n) RowLimit >> Ok (f table)) (count_same table) ∙ limit_cases (nat_lt 20000 (statements.row_count table)) table f
table_cases (Err e) f = refl

statement_same : (t : ℕ) (state : State) (s : Statement) → now.run_statement t state s ≡ before.run_statement t s state
statement_same t state s = table_cases (changed s.action t (state s.table)) (λ table. before.with_table s.table state table)
    ∙ ap (λ r. before.and_then (before.and_then r before.within_limit) (λ table. Ok (before.with_table s.table state table))) (changed_same s.action t (state s.table))

then_same : (r : Result State Refusal) (f g : State → Result State Refusal) → ((next : State) → f next ≡ g next) → (r >>= f) ≡ before.and_then r g
then_same (Ok next) f g same = same next
then_same (Err e) f g same = refl

statements_same : (t : ℕ) (ss : List Statement) (state : State) → fold_ok (now.run_statement t) state ss ≡ before.run_statements t ss state
statements_same t [] state = refl
statements_same t (s ∷ ss) state =
    ap (λ r. r >>= λ next. fold_ok (now.run_statement t) next ss) (statement_same t state s)
    ∙ then_same (before.run_statement t s state) (λ next. fold_ok (now.run_statement t) next ss) (before.run_statements t ss) (λ next. statements_same t ss next)

-- ---- references

none_some : (o : Option Fact) → is_none o ≡ not (is_some o)
none_some None = refl
none_some (Some c) = refl

never : (rs : List Reference) → false ≡ list_any (λ (r : Reference). false) rs
never [] = refl
never (r ∷ rs) = never rs

orphan_by : (state : State) (p : Place) (found : Option Fact) (rs : List Reference) →
    option_map_or (λ (c : Fact). list_any (λ (r : Reference). r.child == p.table && is_none ((state r.parent).fact (r.refers p.key c.values) p.day)) rs) found false
    ≡ list_any (λ (r : Reference). elim (found) [ Some c ↦ r.child == p.table && not (is_some ((state r.parent).fact (r.refers p.key c.values) p.day)) | None ↦ false ]) rs
orphan_by state p None rs = never rs
orphan_by state p (Some c) rs =
    λ i. list_any (λ (r : Reference). r.child == p.table && none_some ((state r.parent).fact (r.refers p.key c.values) p.day) i) rs

orphan_same : (language : Language) (state : State) (p : Place) → now.is_orphan language state p ≡ before.is_orphan language state p
orphan_same language state p = orphan_by state p ((state p.table).fact p.key p.day) language.references

abbrev named : Language → Place → Result State Refusal
named language p = Err (NoParent (language.name p.table) (key_text p.key) (day_text p.day))

named_same : (language : Language) (next : State) (p : Place) → named language p ≡ before.unless_orphan language next (Some p)
named_same language next p = λ i. Err (NoParent (language.name p.table) (key_same p.key i) (day_same p.day i))

found_cases : (language : Language) (next : State) (found : Option Place) →
    option_map_or (named language) found (Ok next) ≡ before.unless_orphan language next found
found_cases language next None = refl
found_cases language next (Some p) = named_same language next p

pub transaction_same : (language : Language) (t : ℕ) (text : List ℕ) (state : State) → now.transacted language t text state ≡ before.executed_text language t text state
unfolding now.transacted before.executed_text before.transacted before.first_orphan
transaction_same language t text state =
    let ss = result_unwrap_or (language.reads text) [] in
    let judged = λ (next : State). option_map_or (named language) (find (now.is_orphan language next) (places language next)) (Ok next) in
    ap (λ r. r >>= judged) (statements_same t ss state)
    ∙ then_same (before.run_statements t ss state) judged (λ next. before.unless_orphan language next (before.first_orphan language next))
    (λ next. (λ i. option_map_or (named language) (find (λ p. orphan_same language next p i) (places language next)) (Ok next))
    ∙ found_cases language next (find (before.is_orphan language next) (places language next)))
