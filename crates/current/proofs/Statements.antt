-- A table that is changed in its place among the tables: the statement on days.
use Rattle.std.proofs.Common.{◌≡◌, ℕ, ◌<◌, ◌≤◌, ◌==◌, true, false, cond, List, [], ◌∷◌, ◌++◌, flat_map, length, get_or, ◌+◌, refl, sym, ap, ◌∙◌, subst, inl, inr, arith, Ok, Err, Option, Some, None, Bor}
use Rattle.std.specs.List.{list_any}
use Rattle.std.proofs.Math.ListN.{set}
use Rattle.std.proofs.lemmas.Bool.{eq-eqb, eqb-true, cases_Bool}
use Rattle.std.proofs.lemmas.List.{length-append}
use Rattle.sqlchecks.specs.declared.comparison.Comparison.{Comparison}
use Rattle.sqlread.specs.declared.statement.Assignment.{Assignment}
use Rattle.fault.specs.declared.refusal.Refusal.{Refusal}
use Rattle.fault.specs.declared.refusal.Refusal.TheVariants.{KeyOverlap, NumberRange}
use Rattle.model.specs.declared.value.Value.{Value}
use Rattle.model.specs.Periods.{period_of}
use Rattle.model.specs.Tables.{days, Period, Row}
use Rattle.model.specs.Transactions.{Statement, Action, Insert, Update, Delete, run_statement}
use Rattle.rowlaws.specs.Rows.{Has, Apart, SameRows, RowCount}
use Rattle.rowlaws.specs.Changes.{IsFine, rows_changed, ActionOnRows, clashes, new_row}
use Rattle.rowlaws.specs.Cutting.{cut_rows, removed_rows}
use Rattle.rowlaws.specs.Touching.{Untouched, TouchedBy, removed_by, added_by, rows_without}
use Rattle.rowlaws.specs.Statements.{Rows}
use Rattle.rowlaws.proofs.Members.{has_left, has_right, has_cases}
use Rattle.current.specs.declared.table.TableRows.{TableRows}
use Rattle.current.specs.declared.correction.Correction.{Correction}
use Rattle.current.specs.Corrections.{is_stuck, kept, correction_action, action_of_correction}
use Rattle.current.specs.Places.{rows_at}
use Rattle.current.specs.Table.{rows_of_table, IsInserted, IsInsertRefused, IsCorrection, IsCorrectionRefused}
use Rattle.current.specs.Run.{IsRun, IsRefused}
use Rattle.current.proofs.InStrand.{HasPortion}
use Rattle.current.proofs.Sorted.{map_sorted, apart_sorted}
use Rattle.current.proofs.Tabled.{rows_at-is, rows_at-set}
use Rattle.current.proofs.TableCorrection.{correction_portion}
use Rattle.current.proofs.Running.{ran, stopped, too_many}
use Rattle.current.proofs.Apart.{IsOfRows, removed_is, added_is}

pub table_apart : (y : TableRows) → Apart (rows_of_table y)
table_apart y = apart_sorted (rows_of_table y) (map_sorted y.index.strands y.ordered y.in_strands)

here_is : (n : ℕ) (a b : List Row) → cond (n == n) a b ≡ a
here_is n a b = ap (λ c. cond c a b) (eq-eqb n n refl)

other_is : (m n : ℕ) (a b : List Row) → (m == n) ≡ false → cond (m == n) a b ≡ b
other_is m n a b h = ap (λ c. cond c a b) h

-- ---- the rows after UPDATE and DELETE

correction_changed : (c : Action) (t : ℕ) (rows : List Row) → IsOfRows c → list_any (is_stuck c) rows ≡ false → rows_changed c t rows ≡ Ok (flat_map (kept c t) rows)
unfolding rows_changed cut_rows removed_rows
correction_changed (Insert k v p) t rows of h = absurd of
correction_changed (Update passes p set) t rows of h = rw h refl
correction_changed (Delete passes p) t rows of h = refl

correction_stuck : (c : Action) (t : ℕ) (rows : List Row) → IsOfRows c → list_any (is_stuck c) rows ≡ true → rows_changed c t rows ≡ Err NumberRange
unfolding rows_changed
correction_stuck (Insert k v p) t rows of h = absurd of
correction_stuck (Update passes p set) t rows of h = rw h refl
correction_stuck (Delete passes p) t rows of h = absurd (never rows h)
  where
    never : (rs : List Row) → list_any (is_stuck (Delete passes p)) rs ≡ true → ⊥
    never [] g = cc
    never (r ∷ rs) g = never rs g

fine_portion : (c : Action) → IsOfRows c → HasPortion c → IsFine c
fine_portion (Insert k v p) of h = absurd of
fine_portion (Update passes p set) of h = h
fine_portion (Delete passes p) of h = h

of_rows : (conditions : List Comparison) (p : Period) (assignments : Option (Bor (List Assignment))) → IsOfRows (correction_action conditions p assignments)
of_rows conditions p None = tt
of_rows conditions p (Some a) = tt

-- ---- INSERT

insert_changed : (key values : List Value) (p : Period) (t : ℕ) (rows : List Row) → list_any (clashes key p) rows ≡ false → rows_changed (Insert key values p) t rows ≡ Ok (rows ++ new_row key values p t ∷ [])
unfolding rows_changed
insert_changed key values p t rows h = rw h refl

insert_clashes : (key values : List Value) (p : Period) (t : ℕ) (rows : List Row) → list_any (clashes key p) rows ≡ true → rows_changed (Insert key values p) t rows ≡ Err KeyOverlap
unfolding rows_changed
insert_clashes key values p t rows h = rw h refl

none_removed : (key values : List Value) (p : Period) (t : ℕ) (rows : List Row) → removed_by (Insert key values p) t rows ≡ []
unfolding rows_without
none_removed key values p t rows = refl

one_comes : (key values : List Value) (p : Period) (t : ℕ) (rows : List Row) → added_by (Insert key values p) t rows ≡ new_row key values p t ∷ []
unfolding rows_without
one_comes key values p t rows = refl

one_longer : (rows : List Row) (r : Row) → length (rows ++ r ∷ []) ≡ length rows + 1
one_longer rows r = length-append rows (r ∷ [])

module _ (on_rows : ActionOnRows) (count : RowCount) (untouched : Untouched) (touched : TouchedBy) (same_rows : SameRows) (tables : List TableRows) (n : ℕ) (l : n < length tables) (x y : TableRows) (at : x ≡ get_or tables n x) where
  abbrev rows : Rows
  rows = rows_at rows_of_table tables

  abbrev more : Rows
  more = rows_at rows_of_table (set tables n y)

  rows_here : rows n ≡ rows_of_table x
  rows_here = rows_at-is rows_of_table tables n x l ∙ ap rows_of_table (sym at)

  more_here : more n ≡ rows_of_table y
  more_here = rows_at-set rows_of_table tables n y n l ∙ here_is n (rows_of_table y) (rows n)

  more_other : (m : ℕ) → (m == n) ≡ false → more m ≡ rows m
  more_other m h = rows_at-set rows_of_table tables n y m l ∙ other_is m n (rows_of_table y) (rows m) h

  more_apart : Apart (more n)
  more_apart = subst (λ rs. Apart rs) (sym more_here) (table_apart y)

  pub same_after : rows_of_table y ≡ rows_of_table x → more ≡ rows
  same_after e = λ i m. each m i
    where
      each : (m : ℕ) → more m ≡ rows m
      each m = elim (cases_Bool (m == n)) [
        | inl same ↦ let i = eqb-true m n same in subst (λ k. more k ≡ rows k) (sym i) (more_here ∙ e ∙ sym rows_here)
        | inr other ↦ more_other m other
      ]

  module _ (t : ℕ) (removed added : Rows) (g c : List Row) (went : (m : ℕ) → removed m ≡ cond (m == n) g []) (came : (m : ℕ) → added m ≡ cond (m == n) c []) where
    pub correction_run : (correction : Correction) → IsCorrection (action_of_correction correction) t (rows_of_table x) (rows_of_table y) g c → IsRun t (record { table = n; action = action_of_correction correction }) rows more removed added
    correction_run correction h =
        let action : Action = action_of_correction correction in
        let of = of_rows correction.conditions.now (period_of correction.portion) correction.assignments in
        let portion = correction_portion correction in
        let k : IsCorrection action t (rows n) (more n) g c = subst (λ rs. IsCorrection action t rs (more n) g c) (sym rows_here) (subst (λ rs. IsCorrection action t (rows_of_table x) rs g c) (sym more_here) h) in
        ran on_rows count untouched touched same_rows (record { table = n; action = action }) t rows more removed added (fine_portion action of portion) (record {
          after = flat_map (kept action t) (rows n);
          is = correction_changed action t (rows n) of k.0;
          few = k.1;
          same = k.2;
          apart = more_apart;
          others = λ m f. (more_other m f, went m ∙ other_is m n g [] f, came m ∙ other_is m n c [] f);
          went = λ table i. went n ∙ here_is n g [] ∙ k.3 ∙ sym (removed_is action t (rows n) table of portion i);
          came = λ table i. came n ∙ here_is n c [] ∙ k.4 ∙ sym (added_is action t (rows n) table of portion i);
        })

    pub insert_run : (key values : List Value) (p : Period) → p.start < p.end → p.end ≤ days → IsInserted (new_row key values p t) (rows_of_table x) (rows_of_table y) → g ≡ [] → c ≡ new_row key values p t ∷ []
        → IsRun t (record { table = n; action = Insert key values p }) rows more removed added
    insert_run key values p some short h none one =
        let row : Row = new_row key values p t in
        let k : IsInserted row (rows n) (more n) = subst (λ rs. IsInserted row rs (more n)) (sym rows_here) (subst (λ rs. IsInserted row (rows_of_table x) rs) (sym more_here) h) in
        let long = one_longer (rows n) row in
        let room = k.1 in
        let to : (r : Row) → Has (more n) r → Has (rows n ++ row ∷ []) r = λ r i. elim ((k.2 r).0 i) [ inl a ↦ has_left (rows n) (row ∷ []) r a | inr e ↦ has_right (rows n) (row ∷ []) r (inl e) ] in
        let from : (r : Row) → Has (rows n ++ row ∷ []) r → Has (more n) r = λ r i. elim (has_cases (rows n) (row ∷ []) r i) [ inl a ↦ (k.2 r).1 (inl a) | inr b ↦ elim b [ inl e ↦ (k.2 r).1 (inr e) | inr z ↦ absurd z ] ] in
        ran on_rows count untouched touched same_rows (record { table = n; action = Insert key values p }) t rows more removed added (some, short) (record {
          after = rows n ++ row ∷ [];
          is = insert_changed key values p t (rows n) k.0;
          few = omega (arith, long, room);
          same = λ r. (to r, from r);
          apart = more_apart;
          others = λ m f. (more_other m f, went m ∙ other_is m n g [] f, came m ∙ other_is m n c [] f);
          went = λ table i. went n ∙ here_is n g [] ∙ none ∙ sym (none_removed key values p t (rows n));
          came = λ table i. came n ∙ here_is n c [] ∙ one ∙ sym (one_comes key values p t (rows n));
        })

  pub correction_refused : (t : ℕ) (correction : Correction) (refusal : Refusal) → IsCorrectionRefused (action_of_correction correction) t (rows_of_table x) refusal → IsRefused t (record { table = n; action = action_of_correction correction }) rows refusal
  correction_refused t correction refusal h =
      let action : Action = action_of_correction correction in
      let s : Statement = record { table = n; action = action } in
      let of = of_rows correction.conditions.now (period_of correction.portion) correction.assignments in
      let fine = fine_portion action of (correction_portion correction) in
      elim (subst (λ rs. IsCorrectionRefused action t rs refusal) (sym rows_here) h) [
        | inl memory ↦ inl memory
        | inr other ↦ elim other [
          | inl range ↦ inr (λ state listed. subst (λ r. run_statement t s state ≡ Err r) (sym range.0) (stopped on_rows count untouched touched same_rows s t rows NumberRange fine (correction_stuck action t (rows n) of range.1) state listed))
          | inr limit ↦ inr (λ state listed. subst (λ r. run_statement t s state ≡ Err r) (sym limit.0) (too_many on_rows count untouched touched same_rows s t rows (flat_map (kept action t) (rows n)) fine (correction_changed action t (rows n) of limit.1) limit.2 state listed))
        ]
      ]

  pub insert_refused : (t : ℕ) (key values : List Value) (p : Period) (refusal : Refusal) → p.start < p.end → p.end ≤ days → IsInsertRefused (new_row key values p t) (rows_of_table x) refusal → IsRefused t (record { table = n; action = Insert key values p }) rows refusal
  insert_refused t key values p refusal some short h =
      let s : Statement = record { table = n; action = Insert key values p } in
      let row : Row = new_row key values p t in
      let long = one_longer (rows n) row in
      elim (subst (λ rs. IsInsertRefused row rs refusal) (sym rows_here) h) [
        | inl memory ↦ inl memory
        | inr other ↦ elim other [
          | inl clash ↦ inr (λ state listed. subst (λ r. run_statement t s state ≡ Err r) (sym clash.0) (stopped on_rows count untouched touched same_rows s t rows KeyOverlap (some, short) (insert_clashes key values p t (rows n) clash.1) state listed))
          | inr limit ↦ inr (λ state listed. subst (λ r. run_statement t s state ≡ Err r) (sym limit.0) (too_many on_rows count untouched touched same_rows s t rows (rows n ++ row ∷ []) (some, short) (insert_changed key values p t (rows n) limit.1) (let many = limit.2 in omega (arith, long, many)) state listed))
        ]
      ]
