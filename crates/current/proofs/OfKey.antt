-- The rows of a key are those of its strand.
use Rattle.std.proofs.Common.{◌≡◌, ℕ, Bool, true, false, List, [], ◌∷◌, ◌++◌, filter, map, refl, sym, ap, ◌∙◌, subst, inl, inr}
use Rattle.std.proofs.lemmas.Bool.{cases_Bool}
use Rattle.std.proofs.lemmas.List.{append-nil}
use Rattle.std.proofs.lemmas.List.Elements.{filter-append}
use Rattle.std.specs.declared.cmp.Ordering.TheVariants.{Less, Equal}
use Rattle.std.specs.BTreeMap.{IsOrdered}
use Rattle.std.specs.List.{AllByRecursion}
use Rattle.std.specs.List.Sorted.{IsStrictlySortedBy}
use Rattle.std.specs.Map.{lookup}
use Rattle.std.specs.Ordering.{is_eq}
use Rattle.model.specs.declared.value.Value.{Value}
use Rattle.model.specs.Values.{key_cmp, same_key}
use Rattle.model.specs.Tables.{Row}
use Rattle.rowlaws.specs.Covering.{periods_of}
use Rattle.rowlaws.specs.Rows.{Has}
use Rattle.rowlaws.proofs.Keys.{key_itself, same_key-true, same_key-itself}
use Rattle.rowlaws.proofs.RowFacts.{both}
use Rattle.current.specs.Rows.{row_of}
use Rattle.current.specs.ByKey.{Map, strand_in, strands_of, rows_in, in_strand}
use Rattle.current.proofs.InStrand.{begins_strand}
use Rattle.current.proofs.Planning.{Entry}
use Rattle.current.proofs.Sorted.{entry_in_strand}

abbrev of_key : List Value → Row → Bool
of_key k r = same_key r.key k

none_of_strand : (k m : List Value) (d : ℕ) (rs : List Row) → same_key m k ≡ false → in_strand m d rs ≡ true → filter (of_key k) rs ≡ []
none_of_strand k m d [] other h = refl
none_of_strand k m d (r ∷ rs) other h =
    let b = begins_strand m d r rs h in
    rw (subst (λ l. same_key l k ≡ false) (sym b.key) other) (none_of_strand k m r.period.end rs other b.later)

all_of_strand : (k m : List Value) (d : ℕ) (rs : List Row) → same_key m k ≡ true → in_strand m d rs ≡ true → filter (of_key k) rs ≡ rs
all_of_strand k m d [] same h = refl
all_of_strand k m d (r ∷ rs) same h =
    let b = begins_strand m d r rs h in
    rw (subst (λ l. same_key l k ≡ true) (sym b.key) same) (ap (λ more. r ∷ more) (all_of_strand k m r.period.end rs same b.later))

-- keys are the same in either order
pub turned : (k l : List Value) (b : Bool) → same_key k l ≡ b → same_key l k ≡ b
turned k l true h = subst (λ m. same_key m k ≡ true) (same_key-true k l h) (same_key-itself k)
turned k l false h = elim (cases_Bool (same_key l k)) [
  | inl y ↦ absurd (both (subst (λ m. same_key k m ≡ true) (sym (same_key-true l k y)) (same_key-itself k)) h)
  | inr n ↦ n
]

later_differs : (k l : List Value) → key_cmp k l ≡ Less → same_key l k ≡ false
later_differs k l less = elim (cases_Bool (same_key l k)) [
  | inl y ↦
      let equal : key_cmp k l ≡ Equal = subst (λ m. key_cmp k m ≡ Equal) (sym (same_key-true l k y)) (key_itself k) in
      let absurdly : Less ≡ Equal = sym less ∙ equal in
      cc
  | inr n ↦ n
]

pub none_later : (k : List Value) (es : List Entry) → AllByRecursion (λ l. key_cmp k l ≡ Less) (map (λ e. e.0) es) → ((e : Entry) → Has es e → in_strand e.0 0 (map row_of e.1) ≡ true) → filter (of_key k) (rows_in es) ≡ []
none_later k [] less h = refl
none_later k (e ∷ es) less h =
    filter-append (of_key k) (map row_of e.1) (rows_in es)
    ∙ ap (λ rs. rs ++ filter (of_key k) (rows_in es)) (none_of_strand k e.0 0 (map row_of e.1) (later_differs k e.0 less.0) (h e (inl refl)))
    ∙ none_later k es less.1 (λ x i. h x (inr i))

found : (k : List Value) (es : List Entry) → IsStrictlySortedBy key_cmp (map (λ e. e.0) es) → ((e : Entry) → Has es e → in_strand e.0 0 (map row_of e.1) ≡ true) → filter (of_key k) (rows_in es) ≡ strand_in (lookup (λ q. is_eq (key_cmp k q)) es)
unfolding IsStrictlySortedBy same_key
found k [] s h = refl
found k (e ∷ es) s h = elim (cases_Bool (same_key k e.0)) [
  | inl same ↦
      let equal = same_key-true k e.0 same in
      rw same
      (filter-append (of_key k) (map row_of e.1) (rows_in es)
      ∙ ap (λ rs. rs ++ filter (of_key k) (rows_in es)) (all_of_strand k e.0 0 (map row_of e.1) (turned k e.0 true same) (h e (inl refl)))
      ∙ ap (λ rs. map row_of e.1 ++ rs) (none_later k es (subst (λ l. AllByRecursion (λ m. key_cmp l m ≡ Less) (map (λ x. x.0) es)) (sym equal) s.0) (λ x i. h x (inr i)))
      ∙ append-nil (map row_of e.1))
  | inr other ↦
      rw other
      (filter-append (of_key k) (map row_of e.1) (rows_in es)
      ∙ ap (λ rs. rs ++ filter (of_key k) (rows_in es)) (none_of_strand k e.0 0 (map row_of e.1) (turned k e.0 false other) (h e (inl refl)))
      ∙ found k es s.1 (λ x i. h x (inr i)))
]

module _ (m : Map) (ordered : IsOrdered key_cmp m) (in_strands : (k : List Value) → in_strand k 0 (strands_of m k) ≡ true) where
  pub strand_of_key : (k : List Value) → filter (λ r. same_key r.key k) (rows_in m.entries) ≡ strands_of m k
  strand_of_key k = found k m.entries ordered (entry_in_strand m ordered in_strands)

  pub strand_periods : (k : List Value) → map (λ r. r.period) (strands_of m k) ≡ periods_of (rows_in m.entries) k
  strand_periods k = ap (map (λ r. r.period)) (sym (strand_of_key k))
