-- Which rows there are after a strand is changed, and that the strands stay strands.
use Rattle.std.proofs.Common.{◌≡◌, ◌<◌, ◌≤◌, Bool, true, false, cond, List, [], ◌∷◌, refl, sym, ap, ◌∙◌, subst, inl, inr, arith, ◌⊎◌, length, ◌+◌}
use Rattle.std.proofs.lemmas.Bool.{cases_Bool, and_parts}
use Rattle.std.specs.Prelude.{nat_lt}
use Rattle.model.specs.declared.value.Value.{Value}
use Rattle.std.specs.BTreeMap.{IsOrdered}
use Rattle.std.specs.List.{list_any}
use Rattle.model.specs.Values.{same_key, key_cmp}
use Rattle.model.specs.Tables.{days, Row, Period}
use Rattle.rowlaws.specs.Rows.{Has, Apart}
use Rattle.rowlaws.proofs.Keys.{same_key-true, same_key-itself}
use Rattle.rowlaws.proofs.RowFacts.{both}
use Rattle.rowlaws.proofs.Anys.{any_has, has_any, same_test}
use Rattle.rowlaws.specs.Changes.{clashes}
use Rattle.current.specs.ByKey.{Strands, Map, strands_of, rows_in, in_strand, with_strand, with_row}
use Rattle.period.specs.declared.period.Period.{Period as DeclaredPeriod}
use Rattle.model.specs.Periods.{period_of}
use Rattle.current.specs.declared.row.Row.{Row as Declared}
use Rattle.current.specs.Rows.{row_of}
use Rattle.current.specs.Table.{IsWith}
use Rattle.current.proofs.InStrand.{put_in_strand, clash_here}
use Rattle.current.proofs.Sorted.{in_its_strand, in_all, map_sorted, apart_sorted, same_length}

abbrev pub InStrands : Strands → Type 0
InStrands strands = (k : List Value) → in_strand k 0 (strands k) ≡ true

-- the row is in its strand
abbrev pub In : Strands → Row → Type 0
In strands r = Has (strands r.key) r

pub with_in_strands : (key : List Value) (rows : List Row) (strands more : Strands) → more ≡ with_strand key rows strands → InStrands strands → in_strand key 0 rows ≡ true → InStrands more
with_in_strands key rows strands more e h here k = subst (λ l. in_strand k 0 (l k) ≡ true) (sym e) (elim (cases_Bool (same_key key k)) [
  | inl same ↦ rw same (subst (λ l. in_strand l 0 rows ≡ true) (same_key-true key k same) here)
  | inr other ↦ rw other (h k)
])

pub with_here : (key : List Value) (rows : List Row) (strands : Strands) → with_strand key rows strands key ≡ rows
with_here key rows strands = rw (same_key-itself key) refl

pub with_other : (key : List Value) (rows : List Row) (strands : Strands) (k : List Value) → same_key key k ≡ false → with_strand key rows strands k ≡ strands k
with_other key rows strands k h = rw h refl

-- ---- one row more

pub put_has : (row : Row) (rs : List Row) (r : Row) → Has (with_row row rs) r → Has rs r ⊎ (r ≡ row)
put_has row [] r (inl e) = inr e
put_has row [] r (inr n) = absurd n
put_has row (q ∷ rs) r h = by (nat_lt q.period.start row.period.start) h (put_has row rs r)
  where
    by : (b : Bool) → Has (cond b (q ∷ with_row row rs) (row ∷ q ∷ rs)) r → (Has (with_row row rs) r → Has rs r ⊎ (r ≡ row)) → Has (q ∷ rs) r ⊎ (r ≡ row)
    by true (inl e) more = inl (inl e)
    by true (inr g) more = elim (more g) [ inl a ↦ inl (inr a) | inr e ↦ inr e ]
    by false (inl e) more = inr e
    by false (inr g) more = inl g

pub has_put : (row : Row) (rs : List Row) (r : Row) → Has rs r ⊎ (r ≡ row) → Has (with_row row rs) r
has_put row [] r (inl n) = absurd n
has_put row [] r (inr e) = inl e
has_put row (q ∷ rs) r h = by (nat_lt q.period.start row.period.start) (has_put row rs r) h
  where
    by : (b : Bool) → (Has rs r ⊎ (r ≡ row) → Has (with_row row rs) r) → Has (q ∷ rs) r ⊎ (r ≡ row) → Has (cond b (q ∷ with_row row rs) (row ∷ q ∷ rs)) r
    by true more (inl (inl e)) = inl e
    by true more (inl (inr g)) = inr (more (inl g))
    by true more (inr e) = inr (more (inr e))
    by false more (inl g) = inr g
    by false more (inr e) = inl e

module _ (row : Row) (strands more : Strands) (e : more ≡ with_strand row.key (with_row row (strands row.key)) strands) where
  pub was_or_put : (r : Row) → In more r → In strands r ⊎ (r ≡ row)
  was_or_put r h =
      let g : Has (with_strand row.key (with_row row (strands row.key)) strands r.key) r = subst (λ l. Has (l r.key) r) e h in
      elim (cases_Bool (same_key row.key r.key)) [
        | inl same ↦
            let key = same_key-true row.key r.key same in
            let there : Has (with_row row (strands row.key)) r = subst (λ rs. Has rs r) (ap (with_strand row.key (with_row row (strands row.key)) strands) (sym key) ∙ with_here row.key _ strands) g in
            elim (put_has row (strands row.key) r there) [ inl a ↦ inl (subst (λ k. Has (strands k) r) key a) | inr i ↦ inr i ]
        | inr other ↦ inl (subst (λ rs. Has rs r) (with_other row.key _ strands r.key other) g)
      ]

  pub put_is_in : In more row
  put_is_in = subst (λ l. Has (l row.key) row) (sym e) (subst (λ rs. Has rs row) (sym (with_here row.key (with_row row (strands row.key)) strands)) (has_put row (strands row.key) row (inr refl)))

  pub still_in : (r : Row) → In strands r → In more r
  still_in r h = subst (λ l. Has (l r.key) r) (sym e) (elim (cases_Bool (same_key row.key r.key)) [
    | inl same ↦
        let key = same_key-true row.key r.key same in
        subst (λ rs. Has rs r) (sym (ap (with_strand row.key (with_row row (strands row.key)) strands) (sym key) ∙ with_here row.key _ strands)) (has_put row (strands row.key) r (inl (subst (λ k. Has (strands k) r) (sym key) h)))
    | inr other ↦ subst (λ rs. Has rs r) (sym (with_other row.key _ strands r.key other)) h
  ])

-- ---- a clash is with a row of the key

pub any_strand : (m : Map) (ordered : IsOrdered key_cmp m) (in_strands : InStrands (strands_of m)) (k : List Value) (p : Period) → list_any (clashes k p) (strands_of m k) ≡ list_any (clashes k p) (rows_in m.entries)
any_strand m ordered in_strands k p = same_test _ _
    (λ h. let x = any_has (clashes k p) (strands_of m k) h in has_any (clashes k p) (rows_in m.entries) x.0 (in_all m ordered in_strands k x.0 x.1) x.2)
    (λ h.
    let x = any_has (clashes k p) (rows_in m.entries) h in
    let key = same_key-true x.0.key k (and_parts _ _ (and_parts _ _ x.2).0).0 in
    has_any (clashes k p) (strands_of m k) x.0 (subst (λ l. Has (strands_of m l) x.0) key (in_its_strand m ordered in_strands x.0 x.1)) x.2)

-- ---- one row more in a map

module _ (m n : Map) (om : IsOrdered key_cmp m) (on : IsOrdered key_cmp n) (im : InStrands (strands_of m)) (in' : InStrands (strands_of n)) (row : Row) (e : strands_of n ≡ with_strand row.key (with_row row (strands_of m row.key)) (strands_of m)) where
  pub row_put : IsWith row (rows_in m.entries) (rows_in n.entries)
  row_put r = (
    (λ h. elim (was_or_put row (strands_of m) (strands_of n) e r (in_its_strand n on in' r h)) [ inl a ↦ inl (in_all m om im r.key r a) | inr i ↦ inr i ]),
    (λ h. elim h [
      | inl a ↦ in_all n on in' r.key r (still_in row (strands_of m) (strands_of n) e r (in_its_strand m om im r a))
      | inr i ↦ subst (λ x. Has (rows_in n.entries) x) (sym i) (in_all n on in' row.key row (put_is_in row (strands_of m) (strands_of n) e))
    ]),
  )

  pub length_put : list_any (clashes row.key row.period) (strands_of m row.key) ≡ false → row.period.start < row.period.end → length (rows_in n.entries) ≡ length (rows_in m.entries) + 1
  length_put clear some =
      let new : Has (rows_in m.entries) row → ⊥ = λ h. both (has_any (clashes row.key row.period) (strands_of m row.key) row (in_its_strand m om im row h) (clash_here row.key row.period row refl some some)) clear in
      let apart : Apart (row ∷ rows_in m.entries) = (new, apart_sorted _ (map_sorted m om im)) in
      let to : (r : Row) → Has (rows_in n.entries) r → Has (row ∷ rows_in m.entries) r = λ r h. elim ((row_put r).0 h) [ inl a ↦ inr a | inr i ↦ inl i ] in
      let from : (r : Row) → Has (row ∷ rows_in m.entries) r → Has (rows_in n.entries) r = λ r h. elim h [ inl i ↦ (row_put r).1 (inr i) | inr a ↦ (row_put r).1 (inl a) ] in
      let same : length (rows_in n.entries) ≡ length (row ∷ rows_in m.entries) = same_length (rows_in n.entries) (row ∷ rows_in m.entries) (apart_sorted _ (map_sorted n on in')) apart to from in
      omega arith

pub put_in_strands : (row : Row) (strands more : Strands) → more ≡ with_strand row.key (with_row row (strands row.key)) strands → InStrands strands → row.period.start < row.period.end → row.period.end ≤ days → list_any (clashes row.key row.period) (strands row.key) ≡ false → InStrands more
put_in_strands row strands more e h some short clear =
    with_in_strands row.key (with_row row (strands row.key)) strands more e h (put_in_strand row.key 0 row (strands row.key) refl (omega arith) some short clear (h row.key))

pub in_calendar : (r : Declared) → (row_of r).period.end ≤ days
unfolding days
in_calendar r = r.period.end.in_range

pub last_day : (p : DeclaredPeriod) → (period_of p).end ≤ days
unfolding days
last_day p = p.end.in_range
