-- A list of the rows of a table: how many they are, and what a statement makes of it.
use Rattle.std.proofs.Common.{◌≡◌, ℕ, ◌<◌, ◌≤◌, ◌⊎◌, inl, inr, true, false, List, [], ◌∷◌, ◌++◌, map, length, Option, Some, None, is_some, refl, sym, ap, ◌∙◌, subst, arith, filter}
use Rattle.std.proofs.lemmas.List.{length-map}
use Rattle.std.specs.List.{range_with_len}
use Rattle.std.specs.List.Sorted.{IsStrictlySortedBy}
use Rattle.std.proofs.lemmas.Bool.{cases_lt, cases_Bool, and_parts, and_from, leb-true, ltb-true, not-true, not_from_false}
use Rattle.model.specs.declared.value.Value.{Value}
use Rattle.model.specs.Values.{same_key, key_cmp}
use Rattle.model.specs.Tables.{days, Period, Fact, Table, Row, IsRow, joined, inside, begins, empty_table}
use Rattle.model.specs.Statements.{inserted, insert_overlaps, with_key, beginnings, row_count}
use Rattle.rowlaws.specs.Rows.{Has, Apart, Lists, SameRows}
use Rattle.rowlaws.proofs.Keys.{same_key-true, has_key, has_keys, sorted_with_key, apart_from_sorted}
use Rattle.rowlaws.proofs.Members.{has_left, has_right, has_cases, apart_append, has_filter, filter_has, apart_filter, pigeon, has_map, map_has, apart_map, has_flat, flat_has, apart_flat, has_range, apart_range}
use Rattle.rowlaws.proofs.RowFacts.{both, one_row}
use Rattle.rowlaws.proofs.Inserted.{stays, comes, apart_from, new_keys, other_fact, outside_fact}

pub lists_none : Lists [] empty_table
unfolding empty_table IsStrictlySortedBy
lists_none = record { each = λ r h. absurd h; every = λ k d c h. cc; once = tt; within = λ r h. absurd h; keyed = λ r h. absurd h; keys = tt }

-- ---- how many rows

is_some_fact : {A : Type 0} (o : Option A) → is_some o ≡ true → (c : A) × (o ≡ Some c)
is_some_fact (Some c) h = (c, refl)
is_some_fact None h = cc

begins_first : {table : Table} {r : Row} → IsRow table r → begins table r.key r.period.start ≡ true
begins_first {table} {r} row = and_from _ _ (ap is_some (row.filled r.period.start (omega arith) row.some)) (not_from_false _ row.first)

place_of : Row → List Value × ℕ
place_of r = (r.key, r.period.start)

abbrev of_key : Table → List Value → List (List Value × ℕ)
of_key table k = map (λ d. (k, d)) (filter (begins table k) (range_with_len 0 days))

of_key_is : (table : Table) (k : List Value) (y : List Value × ℕ) → Has (of_key table k) y → (y.0 ≡ k) × (begins table k y.1 ≡ true)
of_key_is table k y h =
    let m = map_has (λ d. (k, d)) (filter (begins table k) (range_with_len 0 days)) y h in
    let f = filter_has (begins table k) (range_with_len 0 days) m.0 m.1 in
    ((λ i. (m.2 i).0), subst (λ d. begins table k d ≡ true) (λ i. (sym m.2 i).1) f.1)

pub count_is : (rows : List Row) (table : Table) → Lists rows table → row_count table ≡ length rows
unfolding row_count place_of
count_is rows table l =
    let places : List (List Value × ℕ) = map place_of rows in
    let same : (x y : Row) → Has rows x → Has rows y → place_of x ≡ place_of y → x ≡ y = λ x y h g e.
    let some = (l.each x h).some in
    let some' = (l.each y g).some in
    let start : x.period.start ≡ y.period.start = λ i. (e i).1 in
    one_row (l.each x h) (l.each y g) y.key y.period.start (record { key = λ i. (e i).0; from = omega arith; before = omega arith }) (record { key = refl; from = omega arith; before = omega arith }) in
    let to : (z : List Value × ℕ) → Has places z → Has (beginnings table) z = λ z h.
    let m = map_has place_of rows z h in
    let row = l.each m.0 m.1 in
    let some = row.some in
    let short = l.within m.0 m.1 in
    let inner : Has (of_key table m.0.key) (m.0.key, m.0.period.start) = has_map (λ d. (m.0.key, d)) _ m.0.period.start (has_filter (begins table m.0.key) _ m.0.period.start (has_range 0 days m.0.period.start (omega arith) (omega arith)) (begins_first row)) in
    subst (λ w. Has (beginnings table) w) (sym m.2) (has_flat (of_key table) table.keys m.0.key _ (l.keyed m.0 m.1) inner) in
    let from : (z : List Value × ℕ) → Has (beginnings table) z → Has places z = λ z h.
    let m = flat_has (of_key table) table.keys z h in
    let b = of_key_is table m.0 z m.2 in
    let parts = and_parts _ _ b.1 in
    let c = is_some_fact (table.fact m.0 z.1) parts.0 in
    let r = l.every m.0 z.1 c.0 c.1 in
    let row = l.each r.0 r.1 in
    let not_inner : r.0.period.start < z.1 → ⊥ = λ g. both (subst (λ k. joined table k z.1 ≡ true) r.2 (row.whole z.1 g r.4)) (not-true _ parts.1) in
    let start : r.0.period.start ≡ z.1 = elim (cases_lt r.0.period.start z.1) [ inl g ↦ absurd (not_inner g) | inr g ↦ let f = r.3 in omega arith ] in
    let key : r.0.key ≡ z.0 = r.2 ∙ sym b.0 in
    let e : place_of r.0 ≡ z = λ i. (key i, start i) in
    subst (λ w. Has places w) e (has_map place_of rows r.0 r.1) in
    let apart : Apart (beginnings table) = apart_flat (of_key table) table.keys (apart_from_sorted table.keys l.keys)
    (λ k h. apart_map (λ d. (k, d)) _ (λ x y p q e. λ i. (e i).1) (apart_filter (begins table k) _ (apart_range 0 days)))
    (λ k m y h g a b. sym (of_key_is table k y a).0 ∙ (of_key_is table m y b).0) in
    let le = pigeon (beginnings table) places apart from in
    let ge = pigeon places (beginnings table) (apart_map place_of rows same l.once) to in
    let long : length places ≡ length rows = length-map rows place_of in
    omega arith

-- a row of a table is in each list of its rows
pub row_listed : (rows : List Row) (table : Table) (r : Row) → Lists rows table → IsRow table r → Has rows r
row_listed rows table r l row =
    let some = row.some in
    let found = l.every r.key r.period.start _ (row.filled r.period.start (omega arith) some) in
    let same = one_row row (l.each found.0 found.1) r.key r.period.start (record { key = refl; from = omega arith; before = some }) (record { key = found.2; from = found.3; before = found.4 }) in
    subst (λ x. Has rows x) (sym same) found.1

-- another list with the same rows, each once
pub same_listed : SameRows
same_listed rows more table l apart same = record {
  each = λ r h. l.each r ((same r).0 h);
  every = λ k d c h. let r = l.every k d c h in (r.0, (same r.0).1 r.1, r.2, r.3, r.4);
  once = apart;
  within = λ r h. l.within r ((same r).0 h);
  keyed = λ r h. l.keyed r ((same r).0 h);
  keys = l.keys;
}

-- ---- INSERT

module _ (key values : List Value) (p : Period) (t : ℕ) (rows : List Row) (old : Table) (l : Lists rows old) (le : p.start < p.end) (short : p.end ≤ days) where
  abbrev row_new : Row
  row_new = record { key = key; period = p; values = values; system_start = t }

  pub lists_inserted : insert_overlaps key p old ≡ false → Lists (rows ++ row_new ∷ []) (inserted key values p t old)
  lists_inserted clear =
      let one : (r : Row) → Has (rows ++ row_new ∷ []) r → Has rows r ⊎ (r ≡ row_new) = λ r h. elim (has_cases rows (row_new ∷ []) r h) [ inl a ↦ inl a | inr b ↦ elim b [ inl e ↦ inr e | inr n ↦ absurd n ] ] in
      record {
        each = λ r h. elim (one r h) [ inl a ↦ stays key values p t old le clear (l.each r a) | inr e ↦ subst (λ x. IsRow (inserted key values p t old) x) (sym e) (comes key values p t old le clear) ];
        every = λ k d c h. found k d c h clear;
        once = apart_append rows (row_new ∷ []) l.once ((λ h. h), tt) (λ z a b. elim b [ inl e ↦ absurd (apart_from key values p t old le clear (l.each z a) (ap (λ r. r.key) e) p.start (omega arith) le (let s : z.period.start ≡ p.start = ap (λ r. r.period.start) e in omega arith) (let s : z.period.end ≡ p.end = ap (λ r. r.period.end) e in omega arith)) | inr n ↦ n ]);
        within = λ r h. elim (one r h) [ inl a ↦ l.within r a | inr e ↦ subst (λ x. x.period.end ≤ days) (sym e) short ];
        keyed = λ r h. in_keys r (one r h);
        keys = sorted;
      }
    where
      sorted : IsStrictlySortedBy key_cmp (inserted key values p t old).keys
      sorted = subst (λ ks. IsStrictlySortedBy key_cmp ks) (sym (new_keys key values p t old)) (sorted_with_key key old.keys l.keys)

      in_keys : (r : Row) → Has rows r ⊎ (r ≡ row_new) → Has (inserted key values p t old).keys r.key
      in_keys r o = subst (λ ks. Has ks r.key) (sym (new_keys key values p t old)) (elim o [ inl a ↦ has_keys key old.keys r.key (l.keyed r a) | inr e ↦ subst (λ k. Has (with_key key old.keys) k) (ap (λ x. x.key) (sym e)) (has_key key old.keys) ])

      old_one : (k : List Value) (d : ℕ) (c : Fact) → old.fact k d ≡ Some c → (r : Row) × Has (rows ++ row_new ∷ []) r × (r.key ≡ k) × (r.period.start ≤ d) × (d < r.period.end)
      old_one k d c h = let r = l.every k d c h in (r.0, has_left rows (row_new ∷ []) r.0 r.1, r.2, r.3, r.4)

      found : (k : List Value) (d : ℕ) (c : Fact) → (inserted key values p t old).fact k d ≡ Some c → insert_overlaps key p old ≡ false → (r : Row) × Has (rows ++ row_new ∷ []) r × (r.key ≡ k) × (r.period.start ≤ d) × (d < r.period.end)
      found k d c h clear = elim (cases_Bool (same_key k key)) [
        | inr n ↦ old_one k d c (sym (other_fact key values p t old k d n) ∙ h)
        | inl y ↦ let e : k ≡ key = same_key-true k key y in elim (cases_Bool (inside p d)) [
          | inl i ↦ let parts = and_parts _ _ i in (row_new, has_right rows (row_new ∷ []) row_new (inl refl), sym e, leb-true p.start d parts.0, ltb-true d p.end parts.1)
          | inr o ↦ old_one k d c (ap (λ x. old.fact x d) e ∙ sym (outside_fact key values p t old d o) ∙ ap (λ x. (inserted key values p t old).fact x d) (sym e) ∙ h)
        ]
      ]
