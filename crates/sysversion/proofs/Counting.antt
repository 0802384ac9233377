-- How many versions a commit reads.
use Rattle.std.proofs.Common.{◌≡◌, ℕ, zero, suc, ◌+◌, ◌-◌, ◌≤◌, ◌==◌, ◌&&◌, Bool, true, false, List, [], ◌∷◌, map, filter, length, Option, Some, None, is_none, refl, sym, ap, ◌∙◌, subst, inl, inr, arith}
use Rattle.std.proofs.lemmas.Bool.{cases_Bool, cases_lt, and_parts, eqb-true}
use Rattle.std.specs.BTreeMap.{IsOrdered}
use Rattle.std.specs.List.{list_any}
use Rattle.model.specs.declared.value.Value.{Value}
use Rattle.model.specs.Values.{same_key, key_cmp}
use Rattle.model.specs.Tables.{Table, Row, IsRow}
use Rattle.rowlaws.specs.Rows.{Has, Apart}
use Rattle.rowlaws.specs.Statements.{Rows}
use Rattle.rowlaws.proofs.Keys.{same_key-true}
use Rattle.rowlaws.proofs.Members.{filter_has, apart_filter}
use Rattle.rowlaws.proofs.RowFacts.{one_place}
use Rattle.versionlaws.specs.Versions.{Version, Holds}
use Rattle.versionlaws.specs.ByKey.{is_of}
use Rattle.versionlaws.specs.Committing.{is_at, ended}
use Rattle.sysversion.specs.Lists.{Lists, Map, lists_of, versions_in, with_list}
use Rattle.sysversion.specs.Open.{is_open_from, open_from}
use Rattle.sysversion.specs.Reads.{reads_to_end, reads_in_tables, OneForEachRow}
use Rattle.sysversion.proofs.Ending.{ends}
use Rattle.sysversion.proofs.Kept.{AreKeyed}
use Rattle.sysversion.proofs.OfKey.{list_of_key}

-- the same of the lists of a table's keys
abbrev pub list_reads : List Row → Lists → ℕ
list_reads [] lists = 0
list_reads (r ∷ rows) lists = length (open_from r.period.start (lists r.key)) + list_reads rows lists

pub reads_of_lists : (m : Map) → IsOrdered key_cmp m → AreKeyed (lists_of m) → (rows : List Row) → list_reads rows (lists_of m) ≡ reads_to_end rows (versions_in m.entries)
reads_of_lists m o f [] = refl
reads_of_lists m o f (r ∷ rows) = λ i. length (open_from r.period.start (sym (list_of_key m o f r.key) i)) + reads_of_lists m o f rows i

-- ---- a version that ended is open no more

open_ends : (b : Bool) (t start : ℕ) (v : Version) → is_open_from start (ends b t v) ≡ true → is_open_from start v ≡ true
open_ends true t start v h = let no : false ≡ true = h in cc
open_ends false t start v h = h

few_left : (t start : ℕ) (rs : List Row) (vs : List Version) → length (open_from start (map (ended t rs) vs)) ≤ length (open_from start vs)
few_left t start rs [] = omega arith
few_left t start rs (v ∷ vs) =
    let rest = few_left t start rs vs in
    elim (cases_Bool (is_open_from start (ended t rs v))) [
      | inl y ↦ rw (y, open_ends (is_none v.end && list_any (is_at v.row) rs) t start v y) (omega arith)
      | inr n ↦ rw n (elim (cases_Bool (is_open_from start v)) [ inl y ↦ rw y (omega arith) | inr m ↦ rw m rest ])
    ]

fewer : (rows : List Row) (lists more : Lists) → ((start : ℕ) (key : List Value) → length (open_from start (more key)) ≤ length (open_from start (lists key))) → list_reads rows more ≤ list_reads rows lists
fewer [] lists more h = omega arith
fewer (r ∷ rows) lists more h = let here = h r.period.start r.key in let rest = fewer rows lists more h in omega (arith, here, rest)

-- where versions of one key end no more are left to read
pub fewer_reads : (t : ℕ) (r : Row) (lists more : Lists) → more ≡ with_list r.key (map (ended t (r ∷ [])) (lists r.key)) lists → (rows : List Row) → list_reads rows more ≤ list_reads rows lists
fewer_reads t r lists more e rows = fewer rows lists more (λ start key. subst (λ f. length (open_from start (f key)) ≤ length (open_from start (lists key))) (sym e) (at start key))
  where
    at : (start : ℕ) (key : List Value) → length (open_from start (with_list r.key (map (ended t (r ∷ [])) (lists r.key)) lists key)) ≤ length (open_from start (lists key))
    at start key = elim (cases_Bool (same_key r.key key)) [
      | inl same ↦ rw same (subst (λ k. length (open_from start (map (ended t (r ∷ [])) (lists r.key))) ≤ length (open_from start (lists k))) (same_key-true r.key key same) (few_left t start (r ∷ []) (lists r.key)))
      | inr other ↦ rw other (omega arith)
    ]

-- ---- tables

pub none_to_read : (rows : List Row) → reads_to_end rows [] ≡ 0
none_to_read [] = refl
none_to_read (r ∷ rows) = let rest = none_to_read rows in omega (arith, rest)

one_table_more : (n m : ℕ) (removed : Rows) (versions : ℕ → List Version) → m ≡ n + 1 → reads_in_tables m removed versions ≡ reads_in_tables n removed versions + reads_to_end (removed n) (versions n)
one_table_more n m removed versions e = let next : m ≡ suc n = omega (arith, e) in ap (λ k. reads_in_tables k removed versions) next

-- where the rows of one more table went, its versions as they were
pub one_table_read : (removed : Rows) (versions : ℕ → List Version) (n m start old new : ℕ) (rows : List Row) (mine : List Version) → m ≡ n + 1 → removed n ≡ rows → mine ≡ versions n →
    old ≤ start + reads_in_tables n removed versions → new ≤ old + reads_to_end rows mine → new ≤ start + reads_in_tables m removed versions
one_table_read removed versions n m start old new rows mine e went same before read =
    let next = one_table_more n m removed versions e in
    let here : reads_to_end (removed n) (versions n) ≡ reads_to_end rows mine = λ i. reads_to_end (went i) (sym same i) in
    omega (arith, next, here, before, read)

-- past the last table nothing is read
pub no_more_reads : (n m : ℕ) (removed : Rows) (versions : ℕ → List Version) → ((k : ℕ) → m ≤ k → versions k ≡ []) → reads_in_tables n removed versions ≤ reads_in_tables m removed versions
no_more_reads n m removed versions none = by_start n
  where
    grown : (k : ℕ) (d : ℕ) → reads_in_tables k removed versions ≤ reads_in_tables (d + k) removed versions
    grown k zero = let same : 0 + k ≡ k = omega arith in rw same (omega arith)
    grown k (suc d) = let rest = grown k d in let next = one_table_more (d + k) (suc d + k) removed versions (omega arith) in omega (arith, rest, next)

    by_start : (k : ℕ) → reads_in_tables k removed versions ≤ reads_in_tables m removed versions
    by_start zero = omega arith
    by_start (suc k) = elim (cases_lt k m) [
      | inl before ↦
          let e : (m - suc k) + suc k ≡ m = omega arith in
          subst (λ l. reads_in_tables (suc k) removed versions ≤ reads_in_tables l removed versions) e (grown (suc k) (m - suc k))
      | inr past ↦
          let none_here : reads_to_end (removed k) (versions k) ≡ 0 = ap (reads_to_end (removed k)) (none k past) ∙ none_to_read (removed k) in
          let rest = by_start k in
          omega (arith, none_here, rest)
    ]

-- ---- versions that hold a table's history

at_most_one : {A : Type 0} (xs : List A) → Apart xs → ((x y : A) → Has xs x → Has xs y → x ≡ y) → length xs ≤ 1
at_most_one [] a same = omega arith
at_most_one (x ∷ []) a same = omega arith
at_most_one (x ∷ (y ∷ xs)) a same = absurd (a.0 (inl (same x y (inl refl) (inr (inl refl)))))

none_of : {A : Type 0} (o : Option A) → is_none o ≡ true → o ≡ None
none_of None h = refl
none_of (Some x) h = let no : false ≡ true = h in cc

module _ (versions : List Version) (history : ℕ → Table) (bound : ℕ) (current : Table) (held : Holds versions history bound current) where
  -- the row of an open version is there now
  is_there : (v : Version) → Has versions v → is_none v.end ≡ true → IsRow current v.row
  is_there v has open_end = (held.open_rows v.row).1 (v, has, refl, none_of v.end open_end)

  one_open : (key : List Value) (start : ℕ) → length (open_from start (filter (is_of key) versions)) ≤ 1
  one_open key start = at_most_one (open_from start mine) (apart_filter (is_open_from start) mine (apart_filter (is_of key) versions held.apart)) same
    where
      mine : List Version
      mine = filter (is_of key) versions

      same : (v w : Version) → Has (open_from start mine) v → Has (open_from start mine) w → v ≡ w
      same v w has_v has_w =
          let open_v = filter_has (is_open_from start) mine v has_v in
          let open_w = filter_has (is_open_from start) mine w has_w in
          let of_v = filter_has (is_of key) versions v open_v.0 in
          let of_w = filter_has (is_of key) versions w open_w.0 in
          let parts_v = and_parts (is_none v.end) (v.row.period.start == start) open_v.1 in
          let parts_w = and_parts (is_none w.end) (w.row.period.start == start) open_w.1 in
          let keys = same_key-true v.row.key key of_v.1 ∙ sym (same_key-true w.row.key key of_w.1) in
          let starts = eqb-true v.row.period.start start parts_v.1 ∙ sym (eqb-true w.row.period.start start parts_w.1) in
          held.once v w of_v.0 of_w.0 (one_place current v.row w.row (is_there v of_v.0 parts_v.0) (is_there w of_w.0 parts_w.0) keys starts)

  one_for_each : (removed : List Row) → reads_to_end removed versions ≤ length removed
  one_for_each [] = omega arith
  one_for_each (r ∷ rows) = let here = one_open r.key r.period.start in let rest = one_for_each rows in omega (arith, here, rest)

pub one_for_each_row : OneForEachRow
one_for_each_row zero versions history bound current removed held = omega arith
one_for_each_row (suc n) versions history bound current removed held =
    let here = one_for_each (versions n) (history n) bound (current n) (held n) (removed n) in
    let rest = one_for_each_row n versions history bound current removed held in
    omega (arith, here, rest)
