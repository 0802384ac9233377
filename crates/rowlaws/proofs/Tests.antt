-- The refusals 20 and 23, on days and on a list of rows.
use Rattle.std.specs.Option.{option_map_or}
use Rattle.std.proofs.Common.{◌≡◌, ℕ, ◌-◌, ◌<◌, ◌≤◌, Bool, true, false, ◌&&◌, List, Option, Some, None, is_some, refl, sym, ap, ◌∙◌, subst, arith, max, nat_lt}
use Rattle.std.specs.Prelude.{is_none, option_and_then}
use Rattle.std.specs.List.{list_any}
use Rattle.std.proofs.lemmas.Bool.{and_parts, and_from, lt-ltb, ltb-true}
use Rattle.model.specs.declared.value.Value.{Value}
use Rattle.model.specs.Values.{same_key}
use Rattle.rowlaws.proofs.RowFacts.{InRow, both, row_at_is}
use Rattle.model.specs.Tables.{days, Period, Fact, Table, Row, IsRow, row_at}
use Rattle.model.specs.Statements.{insert_overlaps, set_overflows, is_met, meets, days_of}
use Rattle.rowlaws.specs.Rows.{Has, Lists}
use Rattle.rowlaws.specs.Changes.{clashes, overflows}
use Rattle.rowlaws.proofs.Keys.{same_key-true, same_key-itself}
use Rattle.rowlaws.proofs.Members.{has_range, range_has}
use Rattle.rowlaws.proofs.Recut.{some_fact}
use Rattle.rowlaws.proofs.Anys.{any_has, has_any, same_test}

pub met_by : (passes : Row → Bool) (p : Period) (old : Table) {r : Row} → IsRow old r → r.period.end ≤ days → (k : List Value) (d : ℕ) → InRow r k d → is_met passes p old k d ≡ meets passes p r
unfolding is_met
met_by passes p old {r} row short k d x = ap (λ (o : Option Row). option_map_or (meets passes p) o false) (row_at_is row short k d x)

met_some : (passes : Row → Bool) (p : Period) (old : Table) (k : List Value) (d : ℕ) → is_met passes p old k d ≡ true → is_some (old.fact k d) ≡ true
unfolding is_met row_at
met_some passes p old k d h = by (old.fact k d) refl
  where
    by : (o : Option Fact) → old.fact k d ≡ o → is_some o ≡ true
    by (Some c) e = refl
    by None e = let none : is_met passes p old k d ≡ false = rw e refl in absurd (both h none)

none_at : (set : List Value → Option (List Value)) (o : Option Fact) (c : Fact) → o ≡ Some c → is_none (option_and_then (λ (c : Fact). set c.values) o) ≡ is_none (set c.values)
none_at set o c e = ap (λ o. is_none (option_and_then (λ (c : Fact). set c.values) o)) e

module _ (rows : List Row) (old : Table) (l : Lists rows old) (p : Period) (le : p.start < p.end) where
  pub same_overlaps : (key : List Value) → insert_overlaps key p old ≡ list_any (clashes key p) rows
  unfolding insert_overlaps
  same_overlaps key = same_test _ _
      (λ h.
      let d = any_has (λ d. is_some (old.fact key d)) (days_of p) h in
      let c = some_fact (old.fact key d.0) d.2 in
      let r = l.every key d.0 c.0 c.1 in
      let in_p = range_has p.start (p.end - p.start) d.0 d.1 in
      let a = in_p.0 in
      let b = in_p.1 in
      let x = r.3 in
      let y = r.4 in
      has_any (clashes key p) rows r.0 r.1 (and_from _ _ (and_from _ _ (ap (λ k. same_key k key) r.2 ∙ same_key-itself key) (lt-ltb _ _ (omega arith))) (lt-ltb _ _ (omega arith))))
      (λ h.
      let r = any_has (clashes key p) rows h in
      let ps = and_parts _ _ r.2 in
      let qs = and_parts _ _ ps.0 in
      let a : r.0.period.start < p.end = ltb-true _ _ qs.1 in
      let b : p.start < r.0.period.end = ltb-true _ _ ps.1 in
      let row = l.each r.0 r.1 in
      let some = row.some in
      let d : ℕ = max r.0.period.start p.start in
      let key_is : r.0.key ≡ key = same_key-true r.0.key key qs.0 in
      has_any (λ d. is_some (old.fact key d)) (days_of p) d (has_range p.start (p.end - p.start) d (omega arith) (omega arith))
      (subst (λ k. is_some (old.fact k d) ≡ true) key_is (ap is_some (row.filled d (omega arith) (omega arith)))))

  module _ (passes : Row → Bool) (set : List Value → Option (List Value)) where
    -- the day is met, and SET of it is out of range
    abbrev at : List Value → ℕ → Bool
    at k d = is_met passes p old k d && is_none (option_and_then (λ (c : Fact). set c.values) (old.fact k d))

    -- each day of a row is like the row
    at_row : (r : Row) → Has rows r → (k : List Value) (d : ℕ) → InRow r k d → at k d ≡ overflows passes p set r
    at_row r h k d x =
        let row = l.each r h in
        let met : is_met passes p old k d ≡ meets passes p r = met_by passes p old row (l.within r h) k d x in
        let fact : old.fact k d ≡ Some (record { values = r.values; system_start = r.system_start }) = subst (λ m. old.fact m d ≡ Some (record { values = r.values; system_start = r.system_start })) x.key (row.filled d x.from x.before) in
        let none : is_none (option_and_then (λ (c : Fact). set c.values) (old.fact k d)) ≡ is_none (set r.values) = none_at set (old.fact k d) (record { values = r.values; system_start = r.system_start }) fact in
        λ i. met i && none i

    to_row : (k : List Value) (d : ℕ) → at k d ≡ true → list_any (overflows passes p set) rows ≡ true
    to_row k d h =
        let c = some_fact (old.fact k d) (met_some passes p old k d (and_parts _ _ h).0) in
        let r = l.every k d c.0 c.1 in
        has_any (overflows passes p set) rows r.0 r.1 (sym (at_row r.0 r.1 k d (record { key = r.2; from = r.3; before = r.4 })) ∙ h)

    from_row : (r : Row) → Has rows r → overflows passes p set r ≡ true → (d : ℕ) × Has (days_of p) d × (at r.key d ≡ true)
    from_row r h o =
        let met : meets passes p r ≡ true = (and_parts (meets passes p r) (is_none (set r.values)) o).0 in
        let ms = and_parts (passes r && nat_lt r.period.start p.end) (nat_lt p.start r.period.end) met in
        let a : r.period.start < p.end = ltb-true _ _ (and_parts (passes r) (nat_lt r.period.start p.end) ms.0).1 in
        let b : p.start < r.period.end = ltb-true _ _ ms.1 in
        let some = (l.each r h).some in
        let d : ℕ = max r.period.start p.start in
        (d, has_range p.start (p.end - p.start) d (omega arith) (omega arith), at_row r h r.key d (record { key = refl; from = omega arith; before = omega arith }) ∙ o)

    pub same_overflows : set_overflows passes p set old ≡ list_any (overflows passes p set) rows
    unfolding set_overflows
    same_overflows = same_test _ _
        (λ h. let k = any_has (λ k. list_any (at k) (days_of p)) old.keys h in let d = any_has (at k.0) (days_of p) k.2 in to_row k.0 d.0 d.2)
        (λ h.
        let r = any_has (overflows passes p set) rows h in
        let d = from_row r.0 r.1 r.2 in
        has_any (λ k. list_any (at k) (days_of p)) old.keys r.0.key (l.keyed r.0 r.1) (has_any (at r.0.key) (days_of p) d.0 d.1 d.2))
