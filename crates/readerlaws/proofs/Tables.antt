-- Tables that arise, and what an action does to their rows.
use Rattle.std.proofs.Common.{◌≡◌, ℕ, ◌<◌, ◌≤◌, inl, inr, Bool, true, false, cond, List, [], ◌∷◌, ◌++◌, Option, Some, None, option_map, is_none, unwrap_or, Result, Ok, Err, refl, sym, ap, ◌∙◌, subst, arith}
use Rattle.std.specs.Prelude.{◌&&◌, ◌↔◌, flat_map, Contains}
use Rattle.std.specs.List.{list_any}
use Rattle.std.specs.List.Sorted.{IsStrictlySortedBy}
use Rattle.std.specs.Option.{option_map_or}
use Rattle.std.proofs.lemmas.Bool.{cases_lt, and_parts, and_from, leb-true, ltb-true, le-leb, lt-ltb, cond-true, cond-false}
use Rattle.fault.specs.declared.refusal.Refusal.{Refusal}
use Rattle.fault.specs.declared.refusal.Refusal.TheVariants.{KeyOverlap, NumberRange}
use Rattle.model.specs.declared.value.Value.{Value}
use Rattle.model.specs.Tables.{days, Period, Fact, Table, Row, IsRow, inside, row_at, empty_table}
use Rattle.model.specs.Values.{same_key}
use Rattle.model.specs.Statements.{meets, is_met, insert_overlaps, inserted, set_overflows, updated, deleted}
use Rattle.model.specs.Transactions.{Action, Insert, Update, Delete, changed}
use Rattle.rowlaws.specs.Rows.{Has, Lists, EachListed}
use Rattle.rowlaws.specs.Cutting.{cut, cut_rows, removed, removed_rows}
use Rattle.rowlaws.specs.Changes.{IsFine, clashes, overflows, rows_changed, SameResult, ActionOnRows, OverlapsOnRows, OverflowsOnRows}
use Rattle.rowlaws.proofs.Keys.{same_key-true, same_key-itself}
use Rattle.rowlaws.proofs.Anys.{any_has, has_any}
use Rattle.rowlaws.proofs.Contents.{has_contains, contains_has}
use Rattle.rowlaws.proofs.Members.{has_left, has_right, has_cases, has_flat, flat_has}
use Rattle.rowlaws.proofs.RowFacts.{InRow, both, one_row, row_at_is}
use Rattle.readerlaws.specs.Laws.{Arises, Empty, Changed, InsertedIsThere, InsertIsRefused, DeletedIsGone, UnmetStays, left_by, MetIsChanged, PartsAreThere, RowsShareNoDay, RowsAreRuns, NoLongerRun}

-- ---- a table that arises has a list of its rows

lists_none : Lists [] empty_table
unfolding empty_table IsStrictlySortedBy
lists_none = record { each = λ r h. absurd h; every = λ k d c h. cc; once = tt; within = λ r h. absurd h; keyed = λ r h. absurd h; keys = tt }

-- the rows after an accepted action
pub record After (c : Action) (t : ℕ) (rows : List Row) (new : Table) : Type 0 where
  pub rows_new : List Row
  pub are : rows_changed c t rows ≡ Ok rows_new
  pub listed : Lists rows_new new

after : (c : Action) (t : ℕ) (rows : List Row) (new : Table) (x : Result (List Row) Refusal) (y : Result Table Refusal) → rows_changed c t rows ≡ x → SameResult Lists x y → y ≡ Ok new → After c t rows new
after c t rows new (Ok a) (Ok b) e h g = let q : b ≡ new = cc in record { rows_new = a; are = e; listed = subst (λ s. Lists a s) q h }
after c t rows new (Ok a) (Err d) e h g = absurd h
after c t rows new (Err d) (Ok b) e h g = absurd h
after c t rows new (Err d) (Err f) e h g = absurd (cc)

pub changed_lists : ActionOnRows → (c : Action) (t : ℕ) (rows : List Row) (old new : Table) → IsFine c → Lists rows old → changed c t old ≡ Ok new → After c t rows new
changed_lists law c t rows old new fine l e = after c t rows new (rows_changed c t rows) (changed c t old) refl (law c t rows old fine l) e

pub arises_lists : ActionOnRows → (table : Table) → Arises table → (rows : List Row) × Lists rows table
arises_lists law table Empty = ([], lists_none)
arises_lists law table (Changed c t before after fine a e) =
    let old = arises_lists law before a in
    let new = changed_lists law c t old.0 before after fine old.1 e in
    (new.rows_new, new.listed)

-- ---- INSERT

ok_same : {A : Type 0} (b : Bool) (r : Refusal) (x y : A) → cond b (Err r) (Ok x) ≡ Ok y → x ≡ y
ok_same true r x y e = absurd (cc)
ok_same false r x y e = cc

pub inserted_is_there : ActionOnRows → EachListed → InsertedIsThere
unfolding rows_changed
inserted_is_there law listed key values p t before after row some short a e =
    let old = arises_lists law before a in
    let fresh : Row = record { key = key; period = p; values = values; system_start = t } in
    let new = changed_lists law (Insert key values p) t old.0 before after (some, short) old.1 e in
    let same : old.0 ++ fresh ∷ [] ≡ new.rows_new = ok_same (list_any (clashes key p) old.0) KeyOverlap (old.0 ++ fresh ∷ []) new.rows_new new.are in
    let l : Lists (old.0 ++ fresh ∷ []) after = subst (λ rows. Lists rows after) (sym same) new.listed in (
      (λ h. elim (has_cases old.0 (fresh ∷ []) row (listed _ after row l h)) [ inl o ↦ inl (old.1.each row o) | inr n ↦ elim n [ inl q ↦ inr q | inr z ↦ absurd z ] ]),
      (λ h. elim h [ inl o ↦ l.each row (has_left old.0 (fresh ∷ []) row (listed old.0 before row old.1 o)) | inr q ↦ l.each row (has_right old.0 (fresh ∷ []) row (inl q)) ]),
    )

-- ---- rows of a table that arises

module _ (law : ActionOnRows) (listed : EachListed) (table : Table) (a : Arises table) where
  -- it ends by the last day
  short : {row : Row} → IsRow table row → row.period.end ≤ days
  short {row} r = let l = arises_lists law table a in l.1.within row (listed l.0 table row l.1 r)

  lies : {row : Row} (d : ℕ) → inside row.period d ≡ true → InRow row row.key d
  lies {row} d i = let ps = and_parts _ _ i in record { key = refl; from = leb-true row.period.start d ps.0; before = ltb-true d row.period.end ps.1 }

  found : {row : Row} (k : List Value) (d : ℕ) → IsRow table row → row.key ≡ k → inside row.period d ≡ true → row_at table k d ≡ Some row
  found {row} k d r e i = let x = lies {row = row} d i in row_at_is r (short r) k d (record { key = e; from = x.from; before = x.before })

  -- the day of the row is met where the row is
  met_at : {row : Row} (passes : Row → Bool) (p : Period) (d : ℕ) → IsRow table row → inside row.period d ≡ true → is_met passes p table row.key d ≡ meets passes p row
  unfolding is_met
  met_at {row} passes p d r i = ap (λ (o : Option Row). option_map_or (meets passes p) o false) (found row.key d r refl i)

  -- the day is one of the row that is found
  lies_in : (k : List Value) (d : ℕ) (row : Row) → row_at table k d ≡ Some row → IsRow table row × (row.key ≡ k) × (inside row.period d ≡ true)
  unfolding row_at
  lies_in k d row e = by (table.fact k d) refl
    where
      by : (o : Option Fact) → table.fact k d ≡ o → IsRow table row × (row.key ≡ k) × (inside row.period d ≡ true)
      by None g = absurd (let h : row_at table k d ≡ None = rw g refl in let n : None ≡ Some row = sym h ∙ e in cc)
      by (Some c) g =
          let l = arises_lists law table a in
          let r = l.1.every k d c g in
          let i : inside r.0.period d ≡ true = and_from _ _ (le-leb _ _ r.3) (lt-ltb _ _ r.4) in
          let same : r.0 ≡ row = (let q : Some r.0 ≡ Some row = sym (found k d (l.1.each r.0 r.1) r.2 i) ∙ e in cc) in
          subst (λ (x : Row). IsRow table x × (x.key ≡ k) × (inside x.period d ≡ true)) same (l.1.each r.0 r.1, r.2, i)

pub rows_are_runs : ActionOnRows → EachListed → RowsAreRuns
rows_are_runs law listed table key d row a = ((λ e. lies_in law listed table a key d row e), (λ h. found law listed table a key d h.0 h.1 h.2))

pub no_longer_run : NoLongerRun
no_longer_run table row p r from to joins =
    let some = r.some in
    let start : p.start ≡ row.period.start = elim (cases_lt p.start row.period.start) [ inl l ↦ absurd (both (joins row.period.start l (omega arith)) r.first) | inr g ↦ omega arith ] in
    let end : p.end ≡ row.period.end = elim (cases_lt row.period.end p.end) [ inl l ↦ absurd (both (joins row.period.end (omega arith) l) r.last) | inr g ↦ omega arith ] in
    λ i. record { start = start i; end = end i }

pub rows_share_no_day : RowsShareNoDay
rows_share_no_day table a b d r s e i =
    let is = and_parts _ _ i in
    let x = and_parts _ _ is.0 in
    let y = and_parts _ _ is.1 in
    one_row r s b.key d (record { key = e; from = leb-true a.period.start d x.0; before = ltb-true d a.period.end x.1 }) (record { key = refl; from = leb-true b.period.start d y.0; before = ltb-true d b.period.end y.1 })

-- ---- DELETE

deleted_fact : (passes : Row → Bool) (p : Period) (t : ℕ) (old : Table) (k : List Value) (d : ℕ) → is_met passes p old k d ≡ true → inside p d ≡ true → (deleted passes p t old).fact k d ≡ None
unfolding deleted
deleted_fact passes p t old k d m i = rw (m, i) refl

-- a row that passes and has a day of the portion is met
meets_on : (passes : Row → Bool) (p : Period) (row : Row) (d : ℕ) → passes row ≡ true → inside row.period d ≡ true → inside p d ≡ true → meets passes p row ≡ true
meets_on passes p row d pass i j =
    let is = and_parts _ _ i in
    let js = and_parts _ _ j in
    let from = leb-true row.period.start d is.0 in
    let to = ltb-true d row.period.end is.1 in
    let after = leb-true p.start d js.0 in
    let before = ltb-true d p.end js.1 in
    and_from _ _ (and_from _ _ pass (lt-ltb row.period.start p.end (omega arith))) (lt-ltb p.start row.period.end (omega arith))

ok_inj : (x y : Table) → (let o : Result Table Refusal = Ok x in o ≡ Ok y) → x ≡ y
ok_inj x y h = cc

pub deleted_is_gone : ActionOnRows → EachListed → DeletedIsGone
unfolding changed
deleted_is_gone law listed passes p t before after row d a e r pass i =
    let is = and_parts _ _ i in
    let same : deleted passes p t before ≡ after = ok_inj (deleted passes p t before) after e in
    ap (λ (x : Table). x.fact row.key d) (sym same)
    ∙ deleted_fact passes p t before row.key d (met_at law listed before a passes p d r is.0 ∙ meets_on passes p row d pass is.0 is.1) is.1

-- ---- what is not met

alone : {xs : List Row} {x : Row} → xs ≡ x ∷ [] → Has xs x
alone {xs} {x} e = subst (λ ys. Has ys x) (sym e) (inl refl)

pub unmet_stays : ActionOnRows → EachListed → UnmetStays
unfolding rows_changed cut_rows removed_rows
unmet_stays law listed (Insert key values p) t before after row fine a e r n =
    let old = arises_lists law before a in
    let fresh : Row = record { key = key; period = p; values = values; system_start = t } in
    let new = changed_lists law (Insert key values p) t old.0 before after fine old.1 e in
    let same : old.0 ++ fresh ∷ [] ≡ new.rows_new = ok_same (list_any (clashes key p) old.0) KeyOverlap (old.0 ++ fresh ∷ []) new.rows_new new.are in
    new.listed.each row (subst (λ rows. Has rows row) same (has_left old.0 (fresh ∷ []) row (listed old.0 before row old.1 r)))
unmet_stays law listed (Update passes p set) t before after row fine a e r n =
    let old = arises_lists law before a in
    let new = changed_lists law (Update passes p set) t old.0 before after fine old.1 e in
    let same : cut_rows passes p set t old.0 ≡ new.rows_new = ok_same (list_any (overflows passes p set) old.0) NumberRange (cut_rows passes p set t old.0) new.rows_new new.are in
    new.listed.each row (subst (λ rows. Has rows row) same (has_flat (cut passes p set t) old.0 row row (listed old.0 before row old.1 r) (alone (cond-false _ _ _ n))))
unmet_stays law listed (Delete passes p) t before after row fine a e r n =
    let old = arises_lists law before a in
    let new = changed_lists law (Delete passes p) t old.0 before after fine old.1 e in
    let same : removed_rows passes p t old.0 ≡ new.rows_new = (let q = new.are in cc) in
    new.listed.each row (subst (λ rows. Has rows row) same (has_flat (removed passes p t) old.0 row row (listed old.0 before row old.1 r) (alone (cond-false _ _ _ n))))

-- ---- what is met

-- values that are left or not, born at the instant
abbrev born : ℕ → List Value → Fact
born t values = record { values = values; system_start = t }

module _ (listed : EachListed) (law : ActionOnRows) (before : Table) (a : Arises before) {row : Row} (r : IsRow before row) (d : ℕ) (i : inside row.period d ≡ true) where
  fact_is : before.fact row.key d ≡ Some (record { values = row.values; system_start = row.system_start })
  fact_is = let x = lies law listed before a {row = row} d i in r.filled d x.from x.before

  deleted_met : (passes : Row → Bool) (p : Period) (t : ℕ) → meets passes p row ≡ true → (deleted passes p t before).fact row.key d ≡ option_map (λ values. record { values = values; system_start = t }) (left_by (Delete passes p) row d)
  unfolding deleted
  deleted_met passes p t m = rw (met_at law listed before a passes p d r i ∙ m, fact_is) (by (inside p d))
    where
      by : (b : Bool) → cond b None (Some (born t row.values)) ≡ option_map (λ (values : List Value). born t values) (cond b None (Some row.values))
      by true = refl
      by false = refl

  updated_met : (passes : Row → Bool) (p : Period) (set : List Value → Option (List Value)) (t : ℕ) → meets passes p row ≡ true → ((set row.values ≡ None) → ⊥) →
      (updated passes p set t before).fact row.key d ≡ option_map (λ values. record { values = values; system_start = t }) (left_by (Update passes p set) row d)
  unfolding updated
  updated_met passes p set t m some = rw (met_at law listed before a passes p d r i ∙ m, fact_is) (by (inside p d) (set row.values) some)
    where
      by : (b : Bool) (o : Option (List Value)) → ((o ≡ None) → ⊥) → Some (born t (cond b (unwrap_or o row.values) row.values)) ≡ option_map (λ (values : List Value). born t values) (cond b o (Some row.values))
      by true None n = absurd (n refl)
      by true (Some v) n = refl
      by false o n = refl

-- no row that is met is out of range
in_range : OverflowsOnRows → (rows : List Row) (old : Table) (passes : Row → Bool) (p : Period) (set : List Value → Option (List Value)) → Lists rows old → p.start < p.end → set_overflows passes p set old ≡ false →
    (row : Row) → Has rows row → meets passes p row ≡ true → (set row.values ≡ None) → ⊥
in_range law rows old passes p set l some clear row h m e =
    both (has_any (overflows passes p set) rows row h (and_from _ _ m (ap is_none e))) (sym (law rows old passes p set l some) ∙ clear)

ok_test : {A : Type 0} (b : Bool) (r : Refusal) (x y : A) → cond b (Err r) (Ok x) ≡ Ok y → (b ≡ false) × (x ≡ y)
ok_test true r x y e = absurd (cc)
ok_test false r x y e = (refl, cc)

pub met_is_changed : ActionOnRows → EachListed → OverflowsOnRows → MetIsChanged
unfolding changed
met_is_changed law listed over (Insert key values p) t before after row d fine a e r m i = absurd (both m refl)
met_is_changed law listed over (Update passes p set) t before after row d fine a e r m i =
    let l = arises_lists law before a in
    let is = ok_test (set_overflows passes p set before) NumberRange (updated passes p set t before) after e in
    ap (λ (x : Table). x.fact row.key d) (sym is.1)
    ∙ updated_met listed law before a r d i passes p set t m (in_range over l.0 before passes p set l.1 fine is.0 row (listed l.0 before row l.1 r) m)
met_is_changed law listed over (Delete passes p) t before after row d fine a e r m i =
    ap (λ (x : Table). x.fact row.key d) (sym (ok_inj (deleted passes p t before) after e)) ∙ deleted_met listed law before a r d i passes p t m

-- ---- a refused INSERT

err_test : {A : Type 0} (b : Bool) (r : Refusal) (x : A) → cond b (Err r) (Ok x) ≡ Err r → b ≡ true
err_test true r x e = refl
err_test false r x e = absurd (cc)

-- the later start is a day of both
shared : (key : List Value) (p : Period) (row : Row) → row.period.start < row.period.end → p.start < p.end → clashes key p row ≡ true → (row.key ≡ key) × ((d : ℕ) × (inside row.period d && inside p d ≡ true))
shared key p row some some' c =
    let ps = and_parts _ _ c in
    let qs = and_parts _ _ ps.0 in
    let x = ltb-true row.period.start p.end qs.1 in
    let y = ltb-true p.start row.period.end ps.1 in
    let at : (d : ℕ) → row.period.start ≤ d → d < row.period.end → p.start ≤ d → d < p.end → inside row.period d && inside p d ≡ true = λ d a b e f. and_from _ _ (and_from _ _ (le-leb _ _ a) (lt-ltb _ _ b)) (and_from _ _ (le-leb _ _ e) (lt-ltb _ _ f)) in
    (same_key-true row.key key qs.0, elim (cases_lt row.period.start p.start) [ inl l ↦ (p.start, at p.start (omega arith) y (omega arith) some') | inr g ↦ (row.period.start, at row.period.start (omega arith) some g x) ])

clash : (key : List Value) (p : Period) (row : Row) (d : ℕ) → row.key ≡ key → inside row.period d && inside p d ≡ true → clashes key p row ≡ true
clash key p row d e i =
    let is = and_parts _ _ i in
    let x = and_parts _ _ is.0 in
    let y = and_parts _ _ is.1 in
    let a = leb-true row.period.start d x.0 in
    let b = ltb-true d row.period.end x.1 in
    let f = leb-true p.start d y.0 in
    let g = ltb-true d p.end y.1 in
    and_from _ _ (and_from _ _ (subst (λ k. same_key row.key k ≡ true) e (same_key-itself row.key)) (lt-ltb row.period.start p.end (omega arith))) (lt-ltb p.start row.period.end (omega arith))

pub insert_is_refused : ActionOnRows → EachListed → OverlapsOnRows → InsertIsRefused
unfolding changed
insert_is_refused law listed over key values p t before some short a =
    let l = arises_lists law before a in
    let test = over l.0 before key p l.1 some in (
      (λ e.
          (let h = any_has (clashes key p) l.0 (sym test ∙ err_test (insert_overlaps key p before) KeyOverlap (inserted key values p t before) e) in
          let row = l.1.each h.0 h.1 in
          let s = shared key p h.0 row.some some h.2 in
          (h.0, s.1.0, row, s.0, s.1.1))),
      (λ h. cond-true _ _ _ (test ∙ has_any (clashes key p) l.0 h.0 (listed l.0 before h.0 l.1 h.2) (clash key p h.0 h.1 h.3 h.4))),
    )

-- ---- the parts

-- the rows after the action are the parts of the rows before it
flat_parts : EachListed → (f : Row → List Row) (before after : Table) (rows more : List Row) → Lists rows before → Lists more after → flat_map f rows ≡ more → (row : Row) → IsRow after row ↔ ((old : Row) × IsRow before old × Contains (f old) row)
flat_parts listed f before after rows more l m e row = (
  (λ r. let h = flat_has f rows row (subst (λ xs. Has xs row) (sym e) (listed more after row m r)) in (h.0, l.each h.0 h.1, has_contains (f h.0) row h.2)),
  (λ h. m.each row (subst (λ xs. Has xs row) e (has_flat f rows h.0 row (listed rows before h.0 l h.1) (contains_has (f h.0) row h.2)))),
)

pub parts_are_there : ActionOnRows → EachListed → PartsAreThere
unfolding rows_changed cut_rows removed_rows
parts_are_there law listed (Insert key values p) t before after row fine a e other = absurd (other key values p refl)
parts_are_there law listed (Update passes p set) t before after row fine a e other =
    let old = arises_lists law before a in
    let new = changed_lists law (Update passes p set) t old.0 before after fine old.1 e in
    flat_parts listed (cut passes p set t) before after old.0 new.rows_new old.1 new.listed (ok_same (list_any (overflows passes p set) old.0) NumberRange (cut_rows passes p set t old.0) new.rows_new new.are) row
parts_are_there law listed (Delete passes p) t before after row fine a e other =
    let old = arises_lists law before a in
    let new = changed_lists law (Delete passes p) t old.0 before after fine old.1 e in
    flat_parts listed (removed passes p t) before after old.0 new.rows_new old.1 new.listed (let q = new.are in cc) row
