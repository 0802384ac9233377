-- The rows of one list that are not in another.
use Rattle.std.proofs.Common.{◌≡◌, ◌⊎◌, inl, inr, true, not, List, refl, sym, subst}
use Rattle.std.specs.List.{list_any}
use Rattle.std.proofs.lemmas.Bool.{cases_Bool, and_parts, and_from, eq-eqb, eqb-true, not-true, not_from_false}
use Rattle.model.specs.Tables.{Table, Row, IsRow}
use Rattle.rowlaws.specs.Rows.{Has, Apart, Lists}
use Rattle.rowlaws.specs.Touching.{same_row, rows_without, Touched, Untouched}
use Rattle.rowlaws.proofs.Keys.{same_key-true, same_key-itself}
use Rattle.rowlaws.proofs.Members.{apart_filter, has_filter, filter_has}
use Rattle.rowlaws.proofs.RowFacts.{both}
use Rattle.rowlaws.proofs.Listed.{row_listed}
use Rattle.rowlaws.proofs.Anys.{any_has, has_any}

pub same_row-true : (a b : Row) → same_row a b ≡ true → a ≡ b
same_row-true a b h =
    let h4 = and_parts _ _ h in
    let h3 = and_parts _ _ h4.0 in
    let h2 = and_parts _ _ h3.0 in
    let h1 = and_parts _ _ h2.0 in
    let key = same_key-true a.key b.key h1.0 in
    let start = eqb-true a.period.start b.period.start h1.1 in
    let end = eqb-true a.period.end b.period.end h2.1 in
    let values = same_key-true a.values b.values h3.1 in
    let system_start = eqb-true a.system_start b.system_start h4.1 in
    λ i. record { key = key i; period = record { start = start i; end = end i }; values = values i; system_start = system_start i }

pub same_row-itself : (a : Row) → same_row a a ≡ true
same_row-itself a = and_from _ _ (and_from _ _ (and_from _ _ (and_from _ _ (same_key-itself a.key) (eq-eqb _ _ refl)) (eq-eqb _ _ refl)) (same_key-itself a.values)) (eq-eqb _ _ refl)

-- a row that is not left out is in the second list
pub without_has : (rows more : List Row) (r : Row) → Has (rows_without rows more) r → Has rows r × (Has more r → ⊥)
unfolding rows_without
without_has rows more r h =
    let f = filter_has (λ (r : Row). not (list_any (same_row r) more)) rows r h in
    (f.0, λ g. both (has_any (same_row r) more r g (same_row-itself r)) (not-true _ f.1))

pub has_without : (rows more : List Row) (r : Row) → Has rows r → Has more r ⊎ Has (rows_without rows more) r
unfolding rows_without
has_without rows more r h = elim (cases_Bool (list_any (same_row r) more)) [
  | inl y ↦ let m = any_has (same_row r) more y in inl (subst (λ x. Has more x) (sym (same_row-true r m.0 m.2)) m.1)
  | inr n ↦ inr (has_filter (λ (r : Row). not (list_any (same_row r) more)) rows r h (not_from_false _ n))
]

without_is : (rows more : List Row) (old new : Table) → Lists rows old → Lists more new → (r : Row) → Has (rows_without rows more) r → IsRow old r × (IsRow new r → ⊥)
without_is rows more old new l m r h = let w = without_has rows more r h in (l.each r w.0, λ row. w.1 (row_listed more new r m row))

is_without : (rows more : List Row) (old new : Table) → Lists rows old → Lists more new → (r : Row) → IsRow old r → IsRow new r ⊎ Has (rows_without rows more) r
is_without rows more old new l m r row = elim (has_without rows more r (row_listed rows old r l row)) [ inl h ↦ inl (m.each r h) | inr h ↦ inr h ]

pub apart_without : (rows more : List Row) → Apart rows → Apart (rows_without rows more)
unfolding rows_without
apart_without rows more a = apart_filter (λ (r : Row). not (list_any (same_row r) more)) rows a

pub touched : Touched
touched rows more old new l m = record {
  went = without_is rows more old new l m;
  stay = is_without rows more old new l m;
  came = without_is more rows new old m l;
  comes = is_without more rows new old m l;
  removed_once = apart_without rows more l.once;
  added_once = apart_without more rows m.once;
}

pub untouched : Untouched
untouched table = record {
  went = λ row h. absurd h;
  stay = λ row h. inl h;
  came = λ row h. absurd h;
  comes = λ row h. inl h;
  removed_once = tt;
  added_once = tt;
}
