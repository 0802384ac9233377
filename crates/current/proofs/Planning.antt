-- One step of the walk over the strands of a map.
use Rattle.std.proofs.Common.{◌≡◌, ℕ, ◌+◌, Bool, false, ◌||◌, List, [], ◌∷◌, ◌++◌, map, flat_map, length, Some, None, refl, sym, ap, ◌∙◌, subst, inl, inr, ◌⊎◌, append_assoc}
use Rattle.std.proofs.lemmas.List.{length-append}
use Rattle.std.proofs.lemmas.Bool.{cases_Bool}
use Rattle.std.proofs.lemmas.Map.Views.{All-found}
use Rattle.rowlaws.proofs.Keys.{key_total}
use Rattle.rowlaws.proofs.Contents.{has_contains}
use Rattle.std.proofs.lemmas.List.Folds.{list_any-append}
use Rattle.std.proofs.lemmas.Grind.{flat_map-append}
use Rattle.std.specs.List.{list_any}
use Rattle.std.specs.Map.{keys_of, lookup}
use Rattle.std.specs.Ordering.{is_eq}
use Rattle.std.specs.BTreeMap.{IsOrdered, get}
use Rattle.model.specs.declared.value.Value.{Value}
use Rattle.model.specs.Values.{key_cmp, same_key}
use Rattle.model.specs.Tables.{Row}
use Rattle.model.specs.Transactions.{Action}
use Rattle.rowlaws.specs.Rows.{Has}
use Rattle.rowlaws.proofs.Keys.{same_key-true}
use Rattle.rowlaws.proofs.Members.{has_left, has_right, has_cases}
use Rattle.current.specs.declared.plan.Strand.{Strand}
use Rattle.current.specs.declared.row.Row.{Row as Declared}
use Rattle.current.specs.Rows.{row_of}
use Rattle.current.specs.Corrections.{kept}
use Rattle.current.specs.ByKey.{Map, strands_of, strand_in, rows_in}
use Rattle.current.specs.Plans.{IsPlanned}

abbrev pub Entry : Type 0
Entry = List Value × List Declared

-- the rest, after one entry
pub flat_entry : {C : Type 0} (g : Row → List C) (e : Entry) (rest : List Entry) (front next all : List C) → next ≡ front ++ flat_map g (map row_of e.1) → front ++ flat_map g (rows_in (e ∷ rest)) ≡ all → next ++ flat_map g (rows_in rest) ≡ all
flat_entry g e rest front next all n h =
    ap (λ f. f ++ flat_map g (rows_in rest)) n
    ∙ append_assoc front (flat_map g (map row_of e.1)) (flat_map g (rows_in rest))
    ∙ ap (λ more. front ++ more) (sym (flat_map-append g (map row_of e.1) (rows_in rest)))
    ∙ h

pub any_entry : (p : Row → Bool) (e : Entry) (rest : List Entry) (all : Bool) → list_any p (map row_of e.1) ≡ false → list_any p (rows_in (e ∷ rest)) ≡ all → list_any p (rows_in rest) ≡ all
any_entry p e rest all n h = sym (ap (λ b. b || list_any p (rows_in rest)) n) ∙ sym (list_any-append p (map row_of e.1) (rows_in rest)) ∙ h

pub length_entry : (g : Row → List Row) (e : Entry) (rest : List Entry) → length (flat_map g (rows_in (e ∷ rest))) ≡ length (flat_map g (map row_of e.1)) + length (flat_map g (rows_in rest))
length_entry g e rest = ap length (flat_map-append g (map row_of e.1) (rows_in rest)) ∙ length-append (flat_map g (map row_of e.1)) (flat_map g (rows_in rest))

-- ---- what is planned for the keys so far

abbrev pub PlannedFor : Action → ℕ → Map → List Strand → Type 0
PlannedFor c t m plan = (p : Strand) → Has plan p → map row_of p.rows.items ≡ flat_map (kept c t) (strands_of m p.key)

-- the key is planned for, or nothing becomes of its rows, or it is still to come
abbrev pub IsSettled : Action → ℕ → Map → List Strand → List Entry → List Value → Type 0
IsSettled c t m plan rest key = ((p : Strand) × Has plan p × (p.key ≡ key)) ⊎ (flat_map (kept c t) (strands_of m key) ≡ strands_of m key) ⊎ Has (keys_of rest) key

looked : (k : List Value) (es : List Entry) → (lookup (λ q. is_eq (key_cmp k q)) es ≡ None) ⊎ Has (keys_of es) k
unfolding same_key
looked k [] = inl refl
looked k (e ∷ es) = elim (cases_Bool (is_eq (key_cmp k e.0))) [
  | inl y ↦ inr (inl (same_key-true k e.0 y))
  | inr n ↦ elim (looked k es) [ inl none ↦ inl (rw n none) | inr h ↦ inr (inr h) ]
]

module _ (c : Action) (t : ℕ) (m : Map) where
  pub settled_first : (k : List Value) → IsSettled c t m [] m.entries k
  settled_first k = elim (looked k m.entries) [
    | inl none ↦ inr (inl (ap (λ o. flat_map (kept c t) (strand_in o)) none ∙ sym (ap strand_in none)))
    | inr h ↦ inr (inr h)
  ]

  module _ (ordered : IsOrdered key_cmp m) (e : Entry) (rest : List Entry) (old new : List Strand) (there : Has m.entries e) (step : IsPlanned c t e.0 (map row_of e.1) old new) where
    entry_strand : strands_of m e.0 ≡ map row_of e.1
    entry_strand =
        let at = has_contains m.entries e there in
        let found : get key_cmp m e.0 ≡ Some e.1 = subst (λ x. get key_cmp m x.0 ≡ Some x.1) at.2 (All-found key_total m ordered at.0 e at.1) in
        ap strand_in found

    pub planned_more : PlannedFor c t m old → PlannedFor c t m new
    planned_more h p has = elim step [
      | inl same ↦ h p (subst (λ xs. Has xs p) same.0 has)
      | inr one ↦ elim (has_cases old (one.0 ∷ []) p (subst (λ xs. Has xs p) one.1 has)) [
        | inl before ↦ h p before
        | inr here ↦ elim here [
          | inl i ↦
              let there : map row_of one.0.rows.items ≡ flat_map (kept c t) (strands_of m one.0.key) = one.3 ∙ ap (flat_map (kept c t)) (sym entry_strand) ∙ ap (λ k. flat_map (kept c t) (strands_of m k)) (sym one.2) in
              subst (λ q. map row_of q.rows.items ≡ flat_map (kept c t) (strands_of m q.key)) (sym i) there
          | inr n ↦ absurd n
        ]
      ]
    ]

    has_more : (p : Strand) → Has old p → Has new p
    has_more p h = elim step [ inl same ↦ subst (λ xs. Has xs p) (sym same.0) h | inr one ↦ subst (λ xs. Has xs p) (sym one.1) (has_left old (one.0 ∷ []) p h) ]

    settled_here : (k : List Value) → k ≡ e.0 → IsSettled c t m new rest k
    settled_here k i = elim step [
      | inl same ↦ inr (inl (subst (λ l. flat_map (kept c t) (strands_of m l) ≡ strands_of m l) (sym i) (ap (flat_map (kept c t)) entry_strand ∙ same.1 ∙ sym entry_strand)))
      | inr one ↦ inl (one.0, subst (λ xs. Has xs one.0) (sym one.1) (has_right old (one.0 ∷ []) one.0 (inl refl)), one.2 ∙ sym i)
    ]

    pub settled_more : (k : List Value) → IsSettled c t m old (e ∷ rest) k → IsSettled c t m new rest k
    settled_more k h = elim h [
      | inl p ↦ inl (p.0, has_more p.0 p.1, p.2)
      | inr more ↦ elim more [
        | inl same ↦ inr (inl same)
        | inr key ↦ elim key [ inl i ↦ settled_here k i | inr later ↦ inr (inr later) ]
      ]
    ]

pub settled_last : (c : Action) (t : ℕ) (m : Map) (plan : List Strand) (k : List Value) → IsSettled c t m plan [] k → ((p : Strand) × Has plan p × (p.key ≡ k)) ⊎ (flat_map (kept c t) (strands_of m k) ≡ strands_of m k)
settled_last c t m plan k h = elim h [ inl p ↦ inl p | inr more ↦ elim more [ inl same ↦ inr same | inr n ↦ absurd n ] ]
