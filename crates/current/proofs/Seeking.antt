-- What it comes to where keys lost days, and which tables are checked.
use Rattle.std.proofs.Common.{◌≡◌, ℕ, zero, suc, ◌+◌, ◌<◌, ◌≤◌, ◌==◌, true, false, ltb-true, Some, List, [], ◌∷◌, map, drop, length, refl, ap, subst, arith, add-one}
use Rattle.std.proofs.lemmas.Bool.{and_parts, and_from, lt-ltb}
use Rattle.std.specs.Prelude.{nat_lt, slice_get, IfSome}
use Rattle.std.specs.List.{list_any}
use Rattle.std.specs.Option.{option_map_or}
use Rattle.model.specs.Values.{same_key}
use Rattle.model.specs.Tables.{Row}
use Rattle.model.specs.Transactions.{Reference}
use Rattle.period.specs.declared.period.Period.{Period as DeclaredPeriod}
use Rattle.rowlaws.specs.Rows.{Has}
use Rattle.rowlaws.specs.Statements.{Rows}
use Rattle.rowlaws.proofs.Anys.{any_has, has_any}
use Rattle.rowlaws.proofs.Members.{map_has}
use Rattle.rowlaws.proofs.RowFacts.{both}
use Rattle.schema.specs.Shape.{TableShape, ReferenceShape}
use Rattle.sqlchecks.specs.Columns.{Tables}
use Rattle.sqlread.specs.Meaning.{reference_of, values_at}
use Rattle.current.specs.declared.suspects.Lost.{Lost}
use Rattle.current.specs.Reads.{total, judging, seeking, is_between, losing, following, checking, checking_from}
use Rattle.current.specs.Suspects.{IsAcross, IsOfLost, meets_span, refers_among, references_at}
use Rattle.current.proofs.Costs.{seeking_more}

-- ---- keys that lost days

losing_some : (digits : ℕ) (all : Rows) (fs : List Reference) (f : Reference) (lost : List Row) (q : Row) → Has lost q
    → losing digits all fs f lost ≡ seeking digits all fs (is_between lost) (λ r. list_any (λ x. same_key (f.refers r.key r.values) x.key) lost) (all f.child)
losing_some digits all fs f [] q h = absurd h
losing_some digits all fs f (x ∷ lost) q h = refl

module _ (digits : ℕ) (all : Rows) (fs : List Reference) (place : ℕ) (table : TableShape) (f : ReferenceShape) (columns : List ℕ) (same : columns ≡ f.columns)
    (lost : List Row) (told : Lost) (of : IsOfLost lost told) (span : DeclaredPeriod) (is : told.span ≡ Some span) where
  across : IsAcross lost span
  across = subst (λ o. IfSome o (IsAcross lost)) is of.1

  between : (r : Row) → meets_span span r ≡ true → is_between lost r ≡ true
  between r h =
      let days = and_parts (nat_lt r.period.start span.end.number) (nat_lt span.start.number r.period.end) h in
      let before : r.period.start < span.end.number = ltb-true _ _ days.0 in
      let after : span.start.number < r.period.end = ltb-true _ _ days.1 in
      let first = across.0.2 in
      let last = across.1.2 in
      and_from _ _
      (has_any (λ (q : Row). nat_lt q.period.start r.period.end) lost across.0.0 across.0.1 (lt-ltb across.0.0.period.start r.period.end (omega (arith, first, after))))
      (has_any (λ (q : Row). nat_lt r.period.start q.period.end) lost across.1.0 across.1.1 (lt-ltb r.period.start across.1.0.period.end (omega (arith, last, before))))

  refers : (r : Row) → refers_among table columns told.keys.keys r ≡ true → list_any (λ (x : Row). same_key (values_at table f.columns r.key r.values) x.key) lost ≡ true
  refers r h =
      let k = any_has (same_key (values_at table columns r.key r.values)) told.keys.keys h in
      let q = map_has (λ (x : Row). x.key) lost k.0 (of.0 k.0 k.1) in
      let key : same_key (values_at table f.columns r.key r.values) q.0.key ≡ true = subst (λ (cs : List ℕ). same_key (values_at table cs r.key r.values) q.0.key ≡ true) same (subst (λ l. same_key (values_at table columns r.key r.values) l ≡ true) q.2 k.2) in
      has_any (λ (x : Row). same_key (values_at table f.columns r.key r.values) x.key) lost q.0 q.1 key

  pub losing_most : seeking digits all fs (meets_span span) (refers_among table columns told.keys.keys) (all place) ≤ losing digits all fs (reference_of place table f) lost
  losing_most =
      let more = seeking_more digits all fs (meets_span span) (refers_among table columns told.keys.keys) (is_between lost) (λ r. list_any (λ (x : Row). same_key (values_at table f.columns r.key r.values) x.key) lost) (all place) between refers in
      let all_of = losing_some digits all fs (reference_of place table f) lost across.0.0 across.0.1 in
      omega (arith, more, all_of)

-- ---- tables

pub checking_some : (digits : ℕ) (all removed added : Rows) (n : ℕ) (t : TableShape) (rs : List ReferenceShape) → (length rs == 0) ≡ false
    → checking digits all removed added n (map (reference_of n t) rs) ≡ total (λ r. digits + 1 + judging digits all (map (reference_of n t) rs) r) (added n) + total (λ g. following digits all (map (reference_of n t) rs) g (removed g.parent)) (map (reference_of n t) rs)
checking_some digits all removed added n t [] h = let e : true ≡ false = h in absurd (both refl e)
checking_some digits all removed added n t (f ∷ rs) h = refl

pub drop_nothing : {A : Type 0} (xs : List A) → drop 0 xs ≡ xs
drop_nothing [] = refl
drop_nothing (x ∷ xs) = refl

module _ (digits : ℕ) (all removed added : Rows) where
  at_place : (n : ℕ) (ts : Tables) (k : ℕ) → k < length ts
      → checking_from digits all removed added n (drop k ts) ≡ checking digits all removed added n (option_map_or (λ t. map (reference_of n t.1) t.1.references) (slice_get ts k) []) + checking_from digits all removed added (n + 1) (drop (suc k) ts)
  at_place n [] k l = absurd (omega arith)
  at_place n (t ∷ ts) zero l = let e = ap (checking_from digits all removed added (n + 1)) (drop_nothing ts) in omega (arith, e)
  at_place n (t ∷ ts) (suc k) l = at_place n ts k (omega (arith, l))

  -- one table more is checked
  pub table_next : (ts : Tables) (n count next most : ℕ) → n < length ts → count + checking_from digits all removed added n (drop n ts) ≤ most → next ≤ count + checking digits all removed added n (references_at n ts)
      → next + checking_from digits all removed added (n + 1) (drop (n + 1) ts) ≤ most
  table_next ts n count next most below before few =
      let e = at_place n ts n below in
      let f = ap (λ m. checking_from digits all removed added (n + 1) (drop m ts)) (add-one n) in
      omega (arith, e, f, before, few)

  pub table_last : (ts : Tables) (n count next most : ℕ) → n < length ts → count + checking_from digits all removed added n (drop n ts) ≤ most → next ≤ count + checking digits all removed added n (references_at n ts) → next ≤ most
  table_last ts n count next most below before few = let e = table_next ts n count next most below before few in omega (arith, e)
