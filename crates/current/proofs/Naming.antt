-- Which key conditions name, and that nothing becomes of the rows of others.
use Rattle.std.proofs.Common.{◌≡◌, ℕ, ◌+◌, ◌≤◌, true, false, ◌||◌, List, [], ◌∷◌, ◌++◌, filter, flat_map, length, get_or, Option, Some, None, refl, sym, ap, ◌∙◌, subst, inl, inr, arith, Bor}
use Rattle.std.proofs.lemmas.Bool.{cases_Bool, and_parts}
use Rattle.std.proofs.lemmas.List.{length-append}
use Rattle.std.specs.Prelude.{slice_get}
use Rattle.std.specs.List.{list_any}
use Rattle.std.specs.Option.{option_map_or}
use Rattle.std.specs.Ordering.{is_eq}
use Rattle.std.specs.declared.cmp.Ordering.{Ordering}
use Rattle.std.specs.declared.cmp.Ordering.TheVariants.{Less, Equal, Greater}
use Rattle.std.specs.BTreeMap.{IsOrdered}
use Rattle.model.specs.declared.value.Value.{Value}
use Rattle.model.specs.Values.{key_cmp, value_cmp, same_key}
use Rattle.model.specs.Tables.{Row}
use Rattle.model.specs.Transactions.{Action}
use Rattle.period.specs.declared.period.Period.{Period as DeclaredPeriod}
use Rattle.model.specs.Periods.{period_of}
use Rattle.rowlaws.specs.Rows.{Has}
use Rattle.rowlaws.proofs.Keys.{key_same, same_key-itself}
use Rattle.rowlaws.proofs.Members.{flat_has}
use Rattle.rowlaws.proofs.RowFacts.{both}
use Rattle.sqlsyntax.specs.declared.forms.Operator.TheVariants as operator
use Rattle.sqlchecks.specs.declared.comparison.Comparison.{Comparison}
use Rattle.sqlchecks.specs.declared.field.Field.TheVariants.{Key}
use Rattle.sqlchecks.specs.Columns.{kept_at}
use Rattle.sqlchecks.specs.Comparisons.{holds, compares, passes_all}
use Rattle.sqlread.specs.declared.statement.Assignment.{Assignment}
use Rattle.current.specs.Corrections.{is_met, is_stuck, kept, removed_at, added_at, correction_action}
use Rattle.current.specs.ByKey.{Map, strands_of, rows_in, in_strand}
use Rattle.current.proofs.InStrand.{each_in_strand}
use Rattle.current.proofs.Sorted.{in_its_strand, in_all}
use Rattle.current.proofs.OfKey.{strand_of_key}
use Rattle.current.proofs.Walks.{unmet_in_range}

-- ---- the key that conditions name

is_equal : (o : Ordering) → is_eq o ≡ true → o ≡ Equal
is_equal Less h = absurd (both h refl)
is_equal Equal h = refl
is_equal Greater h = absurd (both h refl)

-- equal values are one: keys of one column are the same where these are
one_value : (v w : Value) → is_eq (value_cmp v w) ≡ true → v ≡ w
unfolding key_cmp
one_value v w h =
    let equal : value_cmp v w ≡ Equal = is_equal (value_cmp v w) h in
    let same : key_cmp (v ∷ []) (w ∷ []) ≡ Equal = rw equal refl in
    let one : v ∷ [] ≡ w ∷ [] = key_same (v ∷ []) (w ∷ []) same in
    ap (λ (l : List Value). get_or l 0 v) one

value_there : (o : Option Value) (w : Value) → option_map_or (λ x. holds operator.Equal (value_cmp x w)) o false ≡ true → o ≡ Some w
value_there None w h = absurd (both h refl)
value_there (Some x) w h = ap Some (one_value x w h)

pub said : (c : Comparison) (place : ℕ) → c.operator ≡ operator.Equal → c.field ≡ Key place → (row : Row) → compares c row.key row.values ≡ true → slice_get row.key place ≡ Some c.value
unfolding compares kept_at
said c place o f row h =
    let h2 : option_map_or (λ v. holds operator.Equal (value_cmp v c.value)) (kept_at row.key row.values (Key place)) false ≡ true = subst (λ x. option_map_or (λ v. holds operator.Equal (value_cmp v c.value)) (kept_at row.key row.values x) false ≡ true) f (subst (λ x. option_map_or (λ v. holds x (value_cmp v c.value)) (kept_at row.key row.values c.field) false ≡ true) o h) in
    value_there (slice_get row.key place) c.value h2

-- ---- rows that are not of the key

-- a row that is met passes WHERE
passing : (conditions : List Comparison) (p : DeclaredPeriod) (assignments : Option (Bor (List Assignment))) (r : Row) → is_met (correction_action conditions (period_of p) assignments) r ≡ true → passes_all conditions r ≡ true
passing conditions p None r h = (and_parts _ _ (and_parts _ _ h).0).0
passing conditions p (Some a) r h = (and_parts _ _ (and_parts _ _ h).0).0

module _ (c : Action) (t : ℕ) (k : List Value) where
  unmet_other : (r : Row) → (is_met c r ≡ true → r.key ≡ k) → same_key r.key k ≡ false → is_met c r ≡ false
  unmet_other r h other = elim (cases_Bool (is_met c r)) [
    | inl y ↦ absurd (both (subst (λ l. same_key r.key l ≡ true) (h y) (same_key-itself r.key)) other)
    | inr n ↦ n
  ]

  -- what is none of each row that is not met is that of the key's rows
  only_of_key : {B : Type 0} (g : Row → List B) → ((r : Row) → is_met c r ≡ false → g r ≡ []) → (rows : List Row) → ((r : Row) → Has rows r → is_met c r ≡ true → r.key ≡ k) → flat_map g rows ≡ flat_map g (filter (λ r. same_key r.key k) rows)
  only_of_key g none [] h = refl
  only_of_key g none (r ∷ rows) h = elim (cases_Bool (same_key r.key k)) [
    | inl same ↦ rw same (ap (λ more. g r ++ more) (only_of_key g none rows (λ s i. h s (inr i))))
    | inr other ↦ rw (other, none r (unmet_other r (h r (inl refl)) other)) (only_of_key g none rows (λ s i. h s (inr i)))
  ]

  any_of_key : (rows : List Row) → ((r : Row) → Has rows r → is_met c r ≡ true → r.key ≡ k) → list_any (is_stuck c) rows ≡ list_any (is_stuck c) (filter (λ r. same_key r.key k) rows)
  any_of_key [] h = refl
  any_of_key (r ∷ rows) h = elim (cases_Bool (same_key r.key k)) [
    | inl same ↦ rw same (ap (λ more. is_stuck c r || more) (any_of_key rows (λ s i. h s (inr i))))
    | inr other ↦ rw (other, unmet_in_range c r (unmet_other r (h r (inl refl)) other)) (any_of_key rows (λ s i. h s (inr i)))
  ]

  unmet_kept : (r : Row) → is_met c r ≡ false → kept c t r ≡ r ∷ []
  unmet_kept r h = rw h refl

  -- the other rows stay
  long_of_key : (rows : List Row) → ((r : Row) → Has rows r → is_met c r ≡ true → r.key ≡ k) → length (flat_map (kept c t) rows) + length (filter (λ r. same_key r.key k) rows) ≡ length rows + length (flat_map (kept c t) (filter (λ r. same_key r.key k) rows))
  long_of_key [] h = refl
  long_of_key (r ∷ rows) h = elim (cases_Bool (same_key r.key k)) [
    | inl same ↦
        let more = long_of_key rows (λ s i. h s (inr i)) in
        let one = length-append (kept c t r) (flat_map (kept c t) rows) in
        let two = length-append (kept c t r) (flat_map (kept c t) (filter (λ (s : Row). same_key s.key k) rows)) in
        rw same (omega (arith, more, one, two))
    | inr other ↦
        let more = long_of_key rows (λ s i. h s (inr i)) in
        rw (other, unmet_kept r (unmet_other r (h r (inl refl)) other)) (omega (arith, more))
  ]

  short_of_key : (rows : List Row) → length (filter (λ r. same_key r.key k) rows) ≤ length rows
  short_of_key [] = omega arith
  short_of_key (r ∷ rows) = elim (cases_Bool (same_key r.key k)) [
    | inl same ↦ let more = short_of_key rows in rw same (omega (arith, more))
    | inr other ↦ let more = short_of_key rows in rw other (omega (arith, more))
  ]

-- ---- the plan for the rows of one key

module _ (c : Action) (t : ℕ) (m : Map) (ordered : IsOrdered key_cmp m) (in_strands : (l : List Value) → in_strand l 0 (strands_of m l) ≡ true) (k : List Value) (only : (r : Row) → Has (rows_in m.entries) r → is_met c r ≡ true → r.key ≡ k) where
  pub removed_strand : flat_map (removed_at c t) (strands_of m k) ≡ flat_map (removed_at c t) (rows_in m.entries)
  removed_strand = ap (flat_map (removed_at c t)) (sym (strand_of_key m ordered in_strands k)) ∙ sym (only_of_key c t k (removed_at c t) (λ r h. rw h refl) (rows_in m.entries) only)

  pub added_strand : flat_map (added_at c t) (strands_of m k) ≡ flat_map (added_at c t) (rows_in m.entries)
  added_strand = ap (flat_map (added_at c t)) (sym (strand_of_key m ordered in_strands k)) ∙ sym (only_of_key c t k (added_at c t) (λ r h. rw h refl) (rows_in m.entries) only)

  pub stuck_strand : list_any (is_stuck c) (strands_of m k) ≡ list_any (is_stuck c) (rows_in m.entries)
  stuck_strand = ap (list_any (is_stuck c)) (sym (strand_of_key m ordered in_strands k)) ∙ sym (any_of_key c t k (rows_in m.entries) only)

  pub short_strand : length (strands_of m k) ≤ length (rows_in m.entries)
  short_strand = subst (λ rs. length rs ≤ length (rows_in m.entries)) (strand_of_key m ordered in_strands k) (short_of_key c t k (rows_in m.entries))

  pub long_strand : length (flat_map (kept c t) (rows_in m.entries)) + length (strands_of m k) ≡ length (rows_in m.entries) + length (flat_map (kept c t) (strands_of m k))
  long_strand = subst (λ rs. length (flat_map (kept c t) (rows_in m.entries)) + length rs ≡ length (rows_in m.entries) + length (flat_map (kept c t) rs)) (strand_of_key m ordered in_strands k) (long_of_key c t k (rows_in m.entries) only)

  -- the rows of another key stay
  stays : (l : List Value) (rows : List Row) → same_key l k ≡ false → ((r : Row) → Has rows r → (r.key ≡ l) × Has (rows_in m.entries) r) → flat_map (kept c t) rows ≡ rows
  stays l [] other h = refl
  stays l (r ∷ rows) other h =
      let here = h r (inl refl) in
      let unmet = unmet_other c t k r (only r here.1) (subst (λ x. same_key x k ≡ false) (sym here.0) other) in
      rw (unmet_kept c t k r unmet) (ap (λ more. r ∷ more) (stays l rows other (λ s i. h s (inr i))))

  pub strand_stays : (l : List Value) → same_key l k ≡ false → flat_map (kept c t) (strands_of m l) ≡ strands_of m l
  strand_stays l other = stays l (strands_of m l) other (λ r h. ((each_in_strand l 0 (strands_of m l) r (in_strands l) h).key, in_all m ordered in_strands l r h))

-- ---- rows after an action have the keys of rows before

pub correction_short : (c : Action) (t columns : ℕ) (m n : Map) (om : IsOrdered key_cmp m) (im : (l : List Value) → in_strand l 0 (strands_of m l) ≡ true) (on : IsOrdered key_cmp n) (in' : (l : List Value) → in_strand l 0 (strands_of n l) ≡ true)
    → ((k : List Value) → strands_of n k ≡ flat_map (kept c t) (strands_of m k)) → ((r : Row) → Has (rows_in m.entries) r → length r.key ≤ columns) → (r : Row) → Has (rows_in n.entries) r → length r.key ≤ columns
correction_short c t columns m n om im on in' each short r h =
    let f = flat_has (kept c t) (strands_of m r.key) r (subst (λ rs. Has rs r) (each r.key) (in_its_strand n on in' r h)) in
    let same = (each_in_strand r.key 0 (strands_of m r.key) f.0 (im r.key) f.1).key in
    subst (λ (k : List Value). length k ≤ columns) same (short f.0 (in_all m om im r.key f.0 f.1))
