-- A table after UPDATE or DELETE: the rows that are kept, as many, in strands.
use Rattle.std.proofs.Common.{◌≡◌, ℕ, true, List, [], ◌∷◌, ◌++◌, map, flat_map, length, refl, sym, ap, ◌∙◌, subst, Option, Some, None, Bor}
use Rattle.std.proofs.lemmas.Grind.{flat_map-append}
use Rattle.std.specs.BTreeMap.{IsOrdered}
use Rattle.std.specs.List.Sorted.{IsStrictlySortedBy}
use Rattle.model.specs.declared.value.Value.{Value}
use Rattle.model.specs.Values.{key_cmp}
use Rattle.model.specs.Tables.{Row}
use Rattle.model.specs.Transactions.{Action}
use Rattle.rowlaws.specs.Rows.{Has, Apart}
use Rattle.rowlaws.specs.Covering.{place_cmp}
use Rattle.rowlaws.proofs.Members.{has_flat, flat_has}
use Rattle.current.specs.declared.row.Row.{Row as Declared}
use Rattle.current.specs.Rows.{row_of}
use Rattle.period.specs.declared.period.Period.{Period as DeclaredPeriod}
use Rattle.model.specs.Periods.{period_of}
use Rattle.sqlchecks.specs.declared.comparison.Comparison.{Comparison}
use Rattle.sqlread.specs.declared.statement.Assignment.{Assignment}
use Rattle.current.specs.declared.correction.Correction.{Correction}
use Rattle.current.specs.Corrections.{kept, correction_action, action_of_correction}
use Rattle.current.specs.ByKey.{Map, strands_of, rows_in, in_strand}
use Rattle.current.specs.Table.{HaveSame}
use Rattle.current.proofs.InStrand.{HasPortion, correction_in_strand}
use Rattle.current.proofs.Moves.{InStrands}
use Rattle.current.proofs.Sorted.{strands_sorted, apart_sorted, same_length, entry_in_strand, map_sorted, in_its_strand, in_all}

flat_flat : {A B C : Type 0} (g : B → List C) (f : A → List B) (xs : List A) → flat_map (λ x. flat_map g (f x)) xs ≡ flat_map g (flat_map f xs)
flat_flat g f [] = refl
flat_flat g f (x ∷ xs) = ap (λ more. flat_map g (f x) ++ more) (flat_flat g f xs) ∙ sym (flat_map-append g (f x) (flat_map f xs))

module _ (c : Action) (t : ℕ) (fine : HasPortion c) (m n : Map) (om : IsOrdered key_cmp m) (im : InStrands (strands_of m)) (e : (k : List Value) → strands_of n k ≡ flat_map (kept c t) (strands_of m k)) where
  pub correction_strands : InStrands (strands_of n)
  correction_strands k = subst (λ rs. in_strand k 0 rs ≡ true) (sym (e k)) (correction_in_strand c t k 0 (strands_of m k) fine (im k))

  kept_apart : Apart (flat_map (kept c t) (rows_in m.entries))
  kept_apart =
      let rows : (List Value × List Declared) → List Row = λ x. flat_map (kept c t) (map row_of x.1) in
      let sorted : IsStrictlySortedBy place_cmp (flat_map rows m.entries) = strands_sorted (λ x. x.0) rows m.entries om (λ x h. correction_in_strand c t x.0 0 (map row_of x.1) fine (entry_in_strand m om im x h)) in
      apart_sorted _ (subst (λ rs. IsStrictlySortedBy place_cmp rs) (flat_flat (kept c t) (λ x. map row_of x.1) m.entries) sorted)

  module _ (on : IsOrdered key_cmp n) where
    kept_there : (r : Row) → Has (rows_in n.entries) r → Has (flat_map (kept c t) (rows_in m.entries)) r
    kept_there r h =
        let f = flat_has (kept c t) (strands_of m r.key) r (subst (λ rs. Has rs r) (e r.key) (in_its_strand n on correction_strands r h)) in
        has_flat (kept c t) (rows_in m.entries) f.0 r (in_all m om im r.key f.0 f.1) f.2

    there_kept : (r : Row) → Has (flat_map (kept c t) (rows_in m.entries)) r → Has (rows_in n.entries) r
    there_kept r h =
        let f = flat_has (kept c t) (rows_in m.entries) r h in
        let here : Has (strands_of n f.0.key) r = subst (λ rs. Has rs r) (sym (e f.0.key)) (has_flat (kept c t) (strands_of m f.0.key) f.0 r (in_its_strand m om im f.0 f.1) f.2) in
        in_all n on correction_strands f.0.key r here

    pub correction_same : HaveSame (flat_map (kept c t) (rows_in m.entries)) (rows_in n.entries)
    correction_same r = (kept_there r, there_kept r)

    pub correction_length : length (rows_in n.entries) ≡ length (flat_map (kept c t) (rows_in m.entries))
    correction_length = same_length _ _ (apart_sorted _ (map_sorted n on correction_strands)) kept_apart kept_there there_kept

portion_of : (conditions : List Comparison) (p : DeclaredPeriod) (assignments : Option (Bor (List Assignment))) → HasPortion (correction_action conditions (period_of p) assignments)
portion_of conditions p None = p.ordered
portion_of conditions p (Some a) = p.ordered

pub correction_portion : (correction : Correction) → HasPortion (action_of_correction correction)
correction_portion correction = portion_of correction.conditions.now correction.portion correction.assignments
