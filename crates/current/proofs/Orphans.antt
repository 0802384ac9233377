-- The search for the first day without a parent: tables, keys and rows in turn.
use Rattle.std.proofs.Common.{◌≡◌, ℕ, zero, suc, ◌+◌, ◌-◌, ◌<◌, ◌≤◌, ◌==◌, true, false, List, [], ◌∷◌, ◌++◌, map, drop, length, get_or, Option, Some, None, find, refl, sym, ap, ◌∙◌, inl, inr, arith, eq-eqb}
use Rattle.std.proofs.lemmas.Bool.{cases_Bool, eqb-true}
use Rattle.std.specs.Prelude.{slice_get}
use Rattle.std.specs.List.{range_with_len}
use Rattle.std.specs.Option.{option_or, option_map_or}
use Rattle.std.specs.List.Sorted.{IsStrictlySortedBy}
use Rattle.model.specs.Tables.{Row}
use Rattle.model.specs.Statements.{days_of}
use Rattle.model.specs.Transactions.{Reference, Place}
use Rattle.rowlaws.specs.Statements.{Rows}
use Rattle.model.specs.Periods.{is_free}
use Rattle.rowlaws.specs.Covering.{AllInOrder, lesser, missing, missing_by, place_at, missing_in_rows, missing_in_tables, periods_of, rows_orphan}
use Rattle.rowlaws.proofs.RowFacts.{both}
use Rattle.schema.specs.Shape.{TableShape, ReferenceShape}
use Rattle.sqlchecks.specs.Columns.{Tables}
use Rattle.sqlread.specs.Meaning.{values_at, reference_of, references_from, language_of}
use Rattle.current.specs.declared.row.Row.{Row as Declared}
use Rattle.current.specs.Rows.{row_of}
use Rattle.current.specs.declared.table.TableRows.{TableRows}
use Rattle.current.specs.Places.{rows_at}
use Rattle.current.specs.Table.{rows_of_table}
use Rattle.current.proofs.Lists.{drop_here}
use Rattle.current.specs.ByKey.{rows_in}
use Rattle.current.proofs.Planning.{Entry}
use Rattle.current.proofs.Sorted.{map_sorted}

-- ---- the least of several days

pub lesser_none : (o : Option ℕ) → lesser o None ≡ o
lesser_none None = refl
lesser_none (Some a) = refl

pub lesser_three : (a b c : Option ℕ) → lesser (lesser a b) c ≡ lesser a (lesser b c)
lesser_three None b c = refl
lesser_three (Some a) None c = refl
lesser_three (Some a) (Some b) None = refl
lesser_three (Some a) (Some b) (Some c) = ap Some (omega arith)

-- ---- the foreign keys of one table among all

missing_both : (fs gs : List Reference) (all : Rows) (n : ℕ) (r : Row) → missing (fs ++ gs) all n r ≡ lesser (missing fs all n r) (missing gs all n r)
missing_both [] gs all n r = refl
missing_both (f ∷ fs) gs all n r = ap (lesser (missing_by all n r f)) (missing_both fs gs all n r) ∙ sym (lesser_three (missing_by all n r f) (missing fs all n r) (missing gs all n r))

differs : (a b : ℕ) → (a ≡ b → ⊥) → (a == b) ≡ false
differs a b h = elim (cases_Bool (a == b)) [ inl y ↦ absurd (h (eqb-true a b y)) | inr x ↦ x ]

-- of another table
missing_other : (m n : ℕ) (t : TableShape) (rs : List ReferenceShape) (all : Rows) (r : Row) → (m == n) ≡ false → missing (map (reference_of m t) rs) all n r ≡ None
missing_other m n t [] all r e = refl
missing_other m n t (f ∷ rs) all r e = rw e (missing_other m n t rs all r e)

missing_later : (m n : ℕ) (ts : Tables) (all : Rows) (r : Row) → n < m → missing (references_from m ts) all n r ≡ None
missing_later m n [] all r l = refl
missing_later m n (t ∷ ts) all r l =
    missing_both (map (reference_of m t.1) t.1.references) (references_from (m + 1) ts) all n r
    ∙ ap (λ o. lesser o (missing (references_from (m + 1) ts) all n r)) (missing_other m n t.1 t.1.references all r (differs m n (λ e. absurd (omega (arith, e)))))
    ∙ missing_later (m + 1) n ts all r (omega arith)

missing_same : (m : ℕ) (t : TableShape) (rs : List ReferenceShape) (all : Rows) (n : ℕ) (r : Row) → m ≡ n → missing (map (reference_of m t) rs) all n r ≡ missing (map (reference_of n t) rs) all n r
missing_same m t rs all n r e = ap (λ k. missing (map (reference_of k t) rs) all n r) e

missing_from : (m k n : ℕ) (ts : Tables) (name : List ℕ) (t : TableShape) (all : Rows) (r : Row) → m + k ≡ n → slice_get ts k ≡ Some (name, t) → missing (references_from m ts) all n r ≡ missing (map (reference_of n t) t.references) all n r
missing_from m k n [] name t all r e h = cc
missing_from m zero n (u ∷ ts) name t all r e h =
    let same : u.1 ≡ t = ap (λ o. option_map_or (λ (x : List ℕ × TableShape). x.1) o t) h in
    missing_both (map (reference_of m u.1) u.1.references) (references_from (m + 1) ts) all n r
    ∙ ap (lesser (missing (map (reference_of m u.1) u.1.references) all n r)) (missing_later (m + 1) n ts all r (omega (arith, e)))
    ∙ lesser_none _
    ∙ ap (λ x. missing (map (reference_of m x) x.references) all n r) same
    ∙ missing_same m t t.references all n r (omega (arith, e))
missing_from m (suc k) n (u ∷ ts) name t all r e h =
    missing_both (map (reference_of m u.1) u.1.references) (references_from (m + 1) ts) all n r
    ∙ ap (λ o. lesser o (missing (references_from (m + 1) ts) all n r)) (missing_other m n u.1 u.1.references all r (differs m n (λ q. absurd (omega (arith, e, q)))))
    ∙ missing_from (m + 1) k n ts name t all r (omega (arith, e)) h

pub missing_of_table : (ts : Tables) (n : ℕ) (name : List ℕ) (t : TableShape) (all : Rows) (r : Row) → slice_get ts n ≡ Some (name, t) → missing (references_from 0 ts) all n r ≡ missing (map (reference_of n t) t.references) all n r
missing_of_table ts n name t all r h = missing_from 0 n n ts name t all r (omega arith) h

pub rows_of_table_miss : (ts : Tables) (n : ℕ) (name : List ℕ) (t : TableShape) (all : Rows) (rows : List Row) → slice_get ts n ≡ Some (name, t) → missing_in_rows (references_from 0 ts) all n rows ≡ missing_in_rows (map (reference_of n t) t.references) all n rows
rows_of_table_miss ts n name t all [] h = refl
rows_of_table_miss ts n name t all (r ∷ rows) h = rw (missing_of_table ts n name t all r h, rows_of_table_miss ts n name t all rows h) refl

-- of a table without foreign keys nothing is missing
pub none_refer : (m : ℕ) (t : TableShape) (rs : List ReferenceShape) (all : Rows) (n : ℕ) (rows : List Row) → (length rs == 0) ≡ true → missing_in_rows (map (reference_of m t) rs) all n rows ≡ None
none_refer m t [] all n [] e = refl
none_refer m t [] all n (r ∷ rows) e = none_refer m t [] all n rows e
none_refer m t (f ∷ rs) all n rows e = let none = eqb-true (length (f ∷ rs)) 0 e in absurd (omega arith)

pub row_misses : (fs : List Reference) (all : Rows) (n : ℕ) (rows : List Declared) (i : ℕ) (row : Declared) (d : ℕ) → i < length rows → row ≡ get_or rows i row → missing fs all n (row_of row) ≡ Some d → missing_in_rows fs all n (map row_of (drop i rows)) ≡ Some (record { table = n; key = row.key; day = d })
row_misses fs all n rows i row d l e h = rw (drop_here rows i row l e) (ap (λ o. place_at n (row_of row) o (missing_in_rows fs all n (map row_of (drop (i + 1) rows)))) h)

placed_both : (n : ℕ) (r : Row) (o : Option ℕ) (both first more : Option Place) → both ≡ option_or first more → place_at n r o both ≡ option_or (place_at n r o first) more
placed_both n r None both first more e = e
placed_both n r (Some d) both first more e = refl

pub rows_both : (fs : List Reference) (all : Rows) (n : ℕ) (xs ys : List Row) → missing_in_rows fs all n (xs ++ ys) ≡ option_or (missing_in_rows fs all n xs) (missing_in_rows fs all n ys)
rows_both fs all n [] ys = refl
rows_both fs all n (x ∷ xs) ys = placed_both n x (missing fs all n x) _ _ _ (rows_both fs all n xs ys)

placed_in : (n : ℕ) (r : Row) (o : Option ℕ) (later : Option Place) (p : Place) → ((q : Place) → later ≡ Some q → q.table ≡ n) → place_at n r o later ≡ Some p → p.table ≡ n
placed_in n r None later p h e = h p e
placed_in n r (Some d) later p h e = let same : n ≡ p.table = ap (λ o. option_map_or (λ (q : Place). q.table) o n) e in sym same

-- what is missing of a table is of that table
pub misses_there : (fs : List Reference) (all : Rows) (n : ℕ) (rows : List Row) (p : Place) → missing_in_rows fs all n rows ≡ Some p → p.table ≡ n
misses_there fs all n [] p e = cc
misses_there fs all n (r ∷ rows) p e = placed_in n r (missing fs all n r) (missing_in_rows fs all n rows) p (misses_there fs all n rows) e

pub missing_step : (all : Rows) (n : ℕ) (t : TableShape) (row : Row) (rs : List ReferenceShape) (i : ℕ) (f : ReferenceShape) (o d next total : Option ℕ)
    → i < length rs → f ≡ get_or rs i f → d ≡ find (is_free (periods_of (all f.parent) (values_at t f.columns row.key row.values))) (days_of row.period) → next ≡ lesser o d
    → lesser o (missing (map (reference_of n t) (drop i rs)) all n row) ≡ total → lesser next (missing (map (reference_of n t) (drop (i + 1) rs)) all n row) ≡ total
missing_step all n t row rs i f o d next total l e day new h =
    let rest = missing (map (reference_of n t) (drop (i + 1) rs)) all n row in
    let here : missing_by all n row (reference_of n t f) ≡ d = rw (eq-eqb n n refl) (sym day) in
    ap (λ x. lesser x rest) (new ∙ ap (lesser o) (sym here))
    ∙ lesser_three o (missing_by all n row (reference_of n t f)) rest
    ∙ ap (lesser o) (sym (ap (λ gs. missing (map (reference_of n t) gs) all n row) (drop_here rs i f l e)))
    ∙ h

pub found_first : {A : Type 0} (o p : Option A) (x : A) → o ≡ Some x → option_or o p ≡ Some x
found_first o p x e = rw e refl

pub found_later : {A : Type 0} (o p : Option A) → o ≡ None → option_or o p ≡ p
found_later o p e = rw e refl

pub found_in_entry : (fs : List Reference) (all : Rows) (n : ℕ) (e : Entry) (rest es : List Entry) (p : Place) (total : Option Place) → es ≡ e ∷ rest → missing_in_rows fs all n (rows_in es) ≡ total → Some p ≡ missing_in_rows fs all n (map row_of e.1) → Some p ≡ total
found_in_entry fs all n e rest es p total split h found =
    sym (found_first (missing_in_rows fs all n (map row_of e.1)) (missing_in_rows fs all n (rows_in rest)) p (sym found))
    ∙ sym (rows_both fs all n (map row_of e.1) (rows_in rest))
    ∙ ap (λ xs. missing_in_rows fs all n (rows_in xs)) (sym split)
    ∙ h

pub none_in_entry : (fs : List Reference) (all : Rows) (n : ℕ) (e : Entry) (rest es : List Entry) (total : Option Place) → es ≡ e ∷ rest → missing_in_rows fs all n (rows_in es) ≡ total → None ≡ missing_in_rows fs all n (map row_of e.1) → missing_in_rows fs all n (rows_in rest) ≡ total
none_in_entry fs all n e rest es total split h none =
    sym (found_later (missing_in_rows fs all n (map row_of e.1)) (missing_in_rows fs all n (rows_in rest)) (sym none))
    ∙ sym (rows_both fs all n (map row_of e.1) (rows_in rest))
    ∙ ap (λ xs. missing_in_rows fs all n (rows_in xs)) (sym split)
    ∙ h

-- ---- tables in turn

pub range_more : (n end : ℕ) → n < end → range_with_len n (end - n) ≡ n ∷ range_with_len (n + 1) (end - (n + 1))
range_more n end l = by (end - n) (omega arith)
  where
    by : (more : ℕ) → more ≡ suc (end - (n + 1)) → range_with_len n more ≡ n ∷ range_with_len (n + 1) (end - (n + 1))
    by more e = rw e refl

range_none : (n end : ℕ) → end ≤ n → range_with_len n (end - n) ≡ []
range_none n end l = let none : end - n ≡ 0 = omega arith in ap (range_with_len n) none

pub found_in_table : (fs : List Reference) (all : Rows) (n end : ℕ) (p : Place) (total : Option Place) → n < end → missing_in_tables fs all (range_with_len n (end - n)) ≡ total → Some p ≡ missing_in_rows fs all n (all n) → Some p ≡ total
found_in_table fs all n end p total l h found =
    sym (found_first (missing_in_rows fs all n (all n)) (missing_in_tables fs all (range_with_len (n + 1) (end - (n + 1)))) p (sym found))
    ∙ ap (missing_in_tables fs all) (sym (range_more n end l))
    ∙ h

pub none_in_table : (fs : List Reference) (all : Rows) (n end : ℕ) (total : Option Place) → n < end → missing_in_tables fs all (range_with_len n (end - n)) ≡ total → None ≡ missing_in_rows fs all n (all n) → missing_in_tables fs all (range_with_len (n + 1) (end - (n + 1))) ≡ total
none_in_table fs all n end total l h none =
    sym (found_later (missing_in_rows fs all n (all n)) (missing_in_tables fs all (range_with_len (n + 1) (end - (n + 1)))) (sym none))
    ∙ ap (missing_in_tables fs all) (sym (range_more n end l))
    ∙ h

pub none_left : (fs : List Reference) (all : Rows) (n end : ℕ) (total : Option Place) → end ≤ n → missing_in_tables fs all (range_with_len n (end - n)) ≡ total → None ≡ total
none_left fs all n end total l h = sym (ap (missing_in_tables fs all) (range_none n end l)) ∙ h

pub orphan_is : (ts : Tables) (all : Rows) → rows_orphan (language_of ts) all ≡ missing_in_tables (references_from 0 ts) all (range_with_len 0 (length ts))
unfolding rows_orphan language_of
orphan_is ts all = refl

pub all_in_order : (ts : List TableRows) → AllInOrder (rows_at rows_of_table ts)
unfolding IsStrictlySortedBy
all_in_order [] n = tt
all_in_order (t ∷ ts) zero = map_sorted t.index.strands t.ordered t.in_strands
all_in_order (t ∷ ts) (suc n) = all_in_order ts n
