-- An action of one table's rows is a statement on days, with what it touches.
use Rattle.std.proofs.Common.{◌≡◌, ℕ, ◌<◌, ◌≤◌, ◌==◌, false, List, [], length, refl, sym, ap, ◌∙◌, subst, inl, inr, arith, Result, Ok, Err}
use Rattle.std.proofs.lemmas.Bool.{cases_Bool, eqb-true, lt-ltb, le-ltb}
use Rattle.fault.specs.declared.refusal.Refusal.{Refusal}
use Rattle.fault.specs.declared.refusal.Refusal.TheVariants.{RowLimit}
use Rattle.model.specs.Tables.{Table, Row}
use Rattle.model.specs.Statements.{row_count}
use Rattle.model.specs.Transactions.{State, Statement, changed, and_then, run_statement, within_limit, with_table}
use Rattle.rowlaws.specs.Rows.{Apart, Lists, SameRows, RowCount}
use Rattle.rowlaws.specs.Changes.{IsFine, rows_changed, SameResult, ActionOnRows}
use Rattle.rowlaws.specs.Touching.{IsTouched, Untouched, TouchedBy, removed_by, added_by}
use Rattle.rowlaws.specs.Statements.{Rows, AllListed}
use Rattle.current.specs.Table.{HaveSame}
use Rattle.current.specs.Run.{IsRun}

-- what a program makes of table s.table by the action: these rows, and this is touched; all else stays
pub record Changed (s : Statement) (t : ℕ) (rows more removed added : Rows) : Type 0 where
  pub after : List Row
  pub is : rows_changed s.action t (rows s.table) ≡ Ok after
  pub few : length after ≤ 20000
  pub same : HaveSame after (more s.table)
  pub apart : Apart (more s.table)
  pub others : (n : ℕ) → (n == s.table) ≡ false → (more n ≡ rows n) × (removed n ≡ []) × (added n ≡ [])
  pub went : (table : Table) → Lists (rows s.table) table → removed s.table ≡ removed_by s.action t (rows s.table)
  pub came : (table : Table) → Lists (rows s.table) table → added s.table ≡ added_by s.action t (rows s.table)

and_ok : {A B E : Type 0} (r : Result A E) (a : A) (f : A → Result B E) → r ≡ Ok a → and_then r f ≡ f a
and_ok r a f h = rw h refl

and_err : {A B E : Type 0} (r : Result A E) (e : E) (f : A → Result B E) → r ≡ Err e → and_then r f ≡ Err e
and_err r e f h = rw h refl

is_ok : (rows : Result (List Row) Refusal) (after : List Row) (r : Result Table Refusal) → rows ≡ Ok after → SameResult Lists rows r → (table : Table) × (r ≡ Ok table) × Lists after table
is_ok (Ok a) after (Ok table) h l = let e : a ≡ after = cc in (table, refl, subst (λ x. Lists x table) e l)
is_ok (Ok a) after (Err f) h l = absurd l
is_ok (Err e) after r h l = cc

is_err : (rows : Result (List Row) Refusal) (e : Refusal) (r : Result Table Refusal) → rows ≡ Err e → SameResult Lists rows r → r ≡ Err e
is_err (Ok a) e r h l = cc
is_err (Err f) e (Ok table) h l = absurd l
is_err (Err f) e (Err g) h l = let i : f ≡ e = cc in ap Err (sym l ∙ i)

module _ (on_rows : ActionOnRows) (count : RowCount) (untouched : Untouched) (touched : TouchedBy) (same_rows : SameRows) where
  pub ran : (s : Statement) (t : ℕ) (rows more removed added : Rows) → IsFine s.action → Changed s t rows more removed added → IsRun t s rows more removed added
  ran s t rows more removed added fine c state listed =
      let found = is_ok (rows_changed s.action t (rows s.table)) c.after (changed s.action t (state s.table)) c.is (on_rows s.action t (rows s.table) (state s.table) fine (listed s.table)) in
      let table : Table = found.0 in
      let long : row_count table ≡ length c.after = count c.after table found.2 in
      let few = c.few in
      let small : row_count table ≤ 20000 = omega arith in
      let within : within_limit table ≡ Ok table = rw (le-ltb 20000 (row_count table) small) refl in
      let done : run_statement t s state ≡ Ok (with_table s.table state table) =
      and_ok (and_then (changed s.action t (state s.table)) within_limit) table (λ x. Ok (with_table s.table state x)) (and_ok (changed s.action t (state s.table)) table within_limit found.1 ∙ within) in
      let here : (n : ℕ) → n ≡ s.table → Lists (more n) table × IsTouched (state n) table (removed n) (added n) = λ n e.
      let l : Lists (more s.table) table = same_rows c.after (more s.table) table found.2 c.apart c.same in
      let i : IsTouched (state s.table) table (removed s.table) (added s.table) =
      subst (λ g. IsTouched (state s.table) table g (added s.table)) (sym (c.went (state s.table) (listed s.table)))
      (subst (λ g. IsTouched (state s.table) table (removed_by s.action t (rows s.table)) g) (sym (c.came (state s.table) (listed s.table)))
      (touched s.action t (rows s.table) (state s.table) table fine (listed s.table) found.1)) in
      subst (λ m. Lists (more m) table × IsTouched (state m) table (removed m) (added m)) (sym e) (l, i) in
      let at : (n : ℕ) → Lists (more n) (with_table s.table state table n) × IsTouched (state n) (with_table s.table state table n) (removed n) (added n) = λ n.
      elim (cases_Bool (n == s.table)) [
        | inl y ↦ rw y (here n (eqb-true n s.table y))
        | inr f ↦
            let o = c.others n f in
            let l : Lists (more n) (state n) = subst (λ r. Lists r (state n)) (sym o.0) (listed n) in
            let i : IsTouched (state n) (state n) (removed n) (added n) = subst (λ g. IsTouched (state n) (state n) g (added n)) (sym o.1) (subst (λ g. IsTouched (state n) (state n) [] g) (sym o.2) (untouched (state n))) in
            rw f (l, i)
      ] in
      (with_table s.table state table, done, (λ n. (at n).0), (λ n. (at n).1))

  pub stopped : (s : Statement) (t : ℕ) (rows : Rows) (e : Refusal) → IsFine s.action → rows_changed s.action t (rows s.table) ≡ Err e → (state : State) → AllListed rows state → run_statement t s state ≡ Err e
  stopped s t rows e fine h state listed =
      let r = is_err (rows_changed s.action t (rows s.table)) e (changed s.action t (state s.table)) h (on_rows s.action t (rows s.table) (state s.table) fine (listed s.table)) in
      and_err (and_then (changed s.action t (state s.table)) within_limit) e (λ x. Ok (with_table s.table state x)) (and_err (changed s.action t (state s.table)) e within_limit r)

  pub too_many : (s : Statement) (t : ℕ) (rows : Rows) (after : List Row) → IsFine s.action → rows_changed s.action t (rows s.table) ≡ Ok after → 20000 < length after → (state : State) → AllListed rows state → run_statement t s state ≡ Err RowLimit
  too_many s t rows after fine h many state listed =
      let found = is_ok (rows_changed s.action t (rows s.table)) after (changed s.action t (state s.table)) h (on_rows s.action t (rows s.table) (state s.table) fine (listed s.table)) in
      let table : Table = found.0 in
      let long : row_count table ≡ length after = count after table found.2 in
      let big : 20000 < row_count table = omega arith in
      let beyond : within_limit table ≡ Err RowLimit = rw (lt-ltb 20000 (row_count table) big) refl in
      and_err (and_then (changed s.action t (state s.table)) within_limit) RowLimit (λ x. Ok (with_table s.table state x)) (and_ok (changed s.action t (state s.table)) table within_limit found.1 ∙ beyond)
