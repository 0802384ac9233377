-- Current rows are those of some state.
use Rattle.std.proofs.Common.{◌≡◌, ℕ, zero, suc, ◌<◌, ◌≤◌, true, false, inl, inr, List, [], ◌∷◌, ◌++◌, Ok, refl, sym, ap, ◌∙◌, subst, arith}
use Rattle.std.specs.List.{list_any}
use Rattle.std.proofs.lemmas.Bool.{cases_Bool, and_parts, and_from, ltb-true, lt-ltb}
use Rattle.model.specs.declared.value.Value.{Value}
use Rattle.model.specs.Tables.{days, Table, Row, empty_table}
use Rattle.model.specs.Statements.{inserted, insert_overlaps}
use Rattle.model.specs.Transactions.{State, Language}
use Rattle.model.specs.Logs.{state_after}
use Rattle.rowlaws.specs.Rows.{Has, Apart, Lists, SameRows}
use Rattle.rowlaws.specs.Changes.{clashes, InsertOnRows, OverlapsOnRows}
use Rattle.rowlaws.specs.Statements.{AllListed}
use Rattle.rowlaws.specs.Logs.{rows_after, LogsOnRows}
use Rattle.rowlaws.proofs.Keys.{same_key-true, same_key-itself}
use Rattle.rowlaws.proofs.Members.{has_left, has_right, has_cases}
use Rattle.rowlaws.proofs.RowFacts.{both}
use Rattle.rowlaws.proofs.Anys.{any_has, has_any}
use Rattle.current.specs.declared.current.Current.{Current}
use Rattle.current.specs.declared.table.TableRows.{TableRows}
use Rattle.current.specs.Current.{rows_of}
use Rattle.current.specs.Places.{rows_at}
use Rattle.current.specs.ByKey.{strands_of, in_strand}
use Rattle.current.specs.Table.{rows_of_table}
use Rattle.current.specs.Laws.{OfSomeState}
use Rattle.current.proofs.InStrand.{begins_strand, each_in_strand}
use Rattle.current.proofs.Sorted.{in_its_strand}
use Rattle.current.proofs.Statements.{table_apart}

-- ---- rows of which no two have a common day

-- each row has a day, none past the last, and none in common with a later row of its key
abbrev Fits : List Row → Type 0
Fits [] = Unit {0}
Fits (r ∷ rs) = (r.period.start < r.period.end) × (r.period.end ≤ days) × (list_any (clashes r.key r.period) rs ≡ false) × Fits rs

clashes_itself : (r : Row) → r.period.start < r.period.end → clashes r.key r.period r ≡ true
clashes_itself r some = and_from _ _ (and_from _ _ (same_key-itself r.key) (lt-ltb _ _ some)) (lt-ltb _ _ some)

-- a schema without tables
plain : Language
plain = record { tables = 0; name = λ n. []; references = []; reads = λ text. Ok [] }

nothing_listed : LogsOnRows → Lists [] empty_table
unfolding rows_after state_after
nothing_listed logs = logs plain [] tt 0

module _ (insert : InsertOnRows) (overlaps : OverlapsOnRows) (same : SameRows) (none : Lists [] empty_table) where
  table_with : (rows : List Row) → Fits rows → (table : Table) × Lists rows table
  table_with [] f = (empty_table, none)
  table_with (r ∷ rs) f =
      let old = table_with rs f.3 in
      let clear : insert_overlaps r.key r.period old.0 ≡ false = overlaps rs old.0 r.key r.period old.1 f.0 ∙ f.2 in
      let new : Table = inserted r.key r.values r.period r.system_start old.0 in
      let more : Lists (rs ++ r ∷ []) new = insert r.key r.values r.period r.system_start old.0 rs (f.0, f.1) clear old.1 in
      let out : Has rs r → ⊥ = λ h. both (has_any (clashes r.key r.period) rs r h (clashes_itself r f.0)) f.2 in (
        new,
        same (rs ++ r ∷ []) (r ∷ rs) new more (out, old.1.once) (λ z. (
          (λ h. elim h [ inl e ↦ has_right rs (r ∷ []) z (inl e) | inr g ↦ has_left rs (r ∷ []) z g ]),
          (λ h. elim (has_cases rs (r ∷ []) z h) [ inl g ↦ inr g | inr i ↦ elim i [ inl e ↦ inl e | inr n ↦ absurd n ] ]),
        )),
      )

  -- ---- the rows of a table

  -- two rows of a strand that have a common day are one
  one_in_strand : (k : List Value) (d : ℕ) (rs : List Row) (r s : Row) → in_strand k d rs ≡ true → Has rs r → Has rs s → r.period.start < s.period.end → s.period.start < r.period.end → r ≡ s
  one_in_strand k d [] r s h a b x y = absurd a
  one_in_strand k d (q ∷ rs) r s h (inl e) (inl f) x y = e ∙ sym f
  one_in_strand k d (q ∷ rs) r s h (inl e) (inr b) x y =
      let i = (each_in_strand k q.period.end rs s (begins_strand k d q rs h).later b).from in
      let end : r.period.end ≡ q.period.end = ap (λ z. z.period.end) e in
      absurd (omega arith)
  one_in_strand k d (q ∷ rs) r s h (inr a) (inl f) x y =
      let i = (each_in_strand k q.period.end rs r (begins_strand k d q rs h).later a).from in
      let end : s.period.end ≡ q.period.end = ap (λ z. z.period.end) f in
      absurd (omega arith)
  one_in_strand k d (q ∷ rs) r s h (inr a) (inr b) x y = one_in_strand k q.period.end rs r s (begins_strand k d q rs h).later a b x y

  fits_from : (rows : List Row) → Apart rows → ((r : Row) → Has rows r → (r.period.start < r.period.end) × (r.period.end ≤ days)) → ((r s : Row) → Has rows r → Has rows s → clashes r.key r.period s ≡ true → r ≡ s) → Fits rows
  fits_from [] a each one = tt
  fits_from (r ∷ rs) a each one =
      let e = each r (inl refl) in
      let clear : list_any (clashes r.key r.period) rs ≡ false = elim (cases_Bool (list_any (clashes r.key r.period) rs)) [
        | inl y ↦ let m = any_has (clashes r.key r.period) rs y in absurd (a.0 (subst (λ z. Has rs z) (sym (one r m.0 (inl refl) (inr m.1) m.2)) m.1))
        | inr n ↦ n
      ] in
      (e.0, e.1, clear, fits_from rs a.1 (λ z h. each z (inr h)) (λ y z h g. one y z (inr h) (inr g)))

  table_fits : (t : TableRows) → Fits (rows_of_table t)
  table_fits t = fits_from (rows_of_table t) (table_apart t)
      (λ r h. let i = each_in_strand r.key 0 (strands_of t.index.strands r.key) r (t.in_strands r.key) (in_its_strand t.index.strands t.ordered t.in_strands r h) in (i.some, i.short))
      (λ r s h g c.
      let ps = and_parts _ _ c in
      let qs = and_parts _ _ ps.0 in
      let key = same_key-true s.key r.key qs.0 in
      let there : Has (strands_of t.index.strands r.key) s = subst (λ k. Has (strands_of t.index.strands k) s) key (in_its_strand t.index.strands t.ordered t.in_strands s g) in
      one_in_strand r.key 0 (strands_of t.index.strands r.key) r s (t.in_strands r.key) (in_its_strand t.index.strands t.ordered t.in_strands r h) there (ltb-true _ _ ps.1) (ltb-true _ _ qs.1))

  table_at : (tables : List TableRows) (n : ℕ) → (table : Table) × Lists (rows_at rows_of_table tables n) table
  table_at [] n = (empty_table, none)
  table_at (t ∷ ts) zero = table_with (rows_of_table t) (table_fits t)
  table_at (t ∷ ts) (suc n) = table_at ts n

  state_of : (current : Current) → (state : State) × AllListed (rows_of current) state
  state_of current = ((λ n. (table_at current.tables.items n).0), (λ n. (table_at current.tables.items n).1))

pub of_some_state : InsertOnRows → OverlapsOnRows → SameRows → LogsOnRows → OfSomeState
of_some_state insert overlaps same logs current = state_of insert overlaps same (nothing_listed logs) current
