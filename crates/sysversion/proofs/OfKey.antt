-- The versions of a key are those of its list.
use Rattle.std.proofs.Common.{◌≡◌, Bool, true, false, List, [], ◌∷◌, ◌++◌, filter, map, Some, refl, sym, ap, ◌∙◌, subst, inl, inr}
use Rattle.std.proofs.lemmas.Bool.{cases_Bool, and_parts}
use Rattle.std.proofs.lemmas.List.{append-nil}
use Rattle.std.proofs.lemmas.List.Elements.{filter-append}
use Rattle.std.proofs.lemmas.Map.Views.{All-found}
use Rattle.std.specs.declared.cmp.Ordering.TheVariants.{Less, Equal}
use Rattle.std.specs.BTreeMap.{IsOrdered, get}
use Rattle.std.specs.List.{AllByRecursion, list_all}
use Rattle.std.specs.List.Sorted.{IsStrictlySortedBy}
use Rattle.std.specs.Map.{lookup}
use Rattle.std.specs.Ordering.{is_eq}
use Rattle.model.specs.declared.value.Value.{Value}
use Rattle.model.specs.Values.{key_cmp, same_key}
use Rattle.rowlaws.specs.Rows.{Has}
use Rattle.rowlaws.proofs.Contents.{has_contains}
use Rattle.rowlaws.proofs.Keys.{key_total, key_itself, same_key-true, same_key-itself}
use Rattle.rowlaws.proofs.RowFacts.{both}
use Rattle.versionlaws.specs.Versions.{Version}
use Rattle.versionlaws.specs.ByKey.{is_of}
use Rattle.sysversion.specs.declared.version.Version.{Version as Declared}
use Rattle.sysversion.specs.Lists.{Map, version_of, list_in, lists_of, versions_in}

abbrev Entry : Type 0
Entry = List Value × List Declared

-- the versions of an entry are all of its key
abbrev IsKeyed : Entry → Type 0
IsKeyed e = list_all (is_of e.0) (map version_of e.1) ≡ true

none_of_list : (k m : List Value) (vs : List Version) → same_key m k ≡ false → list_all (is_of m) vs ≡ true → filter (is_of k) vs ≡ []
none_of_list k m [] other all = refl
none_of_list k m (v ∷ vs) other all =
    let parts = and_parts (is_of m v) (list_all (is_of m) vs) all in
    let no : is_of k v ≡ false = subst (λ l. same_key l k ≡ false) (sym (same_key-true v.row.key m parts.0)) other in
    rw no (none_of_list k m vs other parts.1)

pub all_of_list : (k : List Value) (vs : List Version) → list_all (is_of k) vs ≡ true → filter (is_of k) vs ≡ vs
all_of_list k [] all = refl
all_of_list k (v ∷ vs) all =
    let parts = and_parts (is_of k v) (list_all (is_of k) vs) all in
    rw parts.0 (ap (λ more. v ∷ more) (all_of_list k vs parts.1))

-- keys are the same in either order
turned : (k l : List Value) (b : Bool) → same_key k l ≡ b → same_key l k ≡ b
turned k l true h = subst (λ m. same_key m k ≡ true) (same_key-true k l h) (same_key-itself k)
turned k l false h = elim (cases_Bool (same_key l k)) [
  | inl y ↦ absurd (both (subst (λ m. same_key k m ≡ true) (sym (same_key-true l k y)) (same_key-itself k)) h)
  | inr n ↦ n
]

later_differs : (k l : List Value) → key_cmp k l ≡ Less → same_key l k ≡ false
later_differs k l less = elim (cases_Bool (same_key l k)) [
  | inl y ↦
      let equal : key_cmp k l ≡ Equal = subst (λ m. key_cmp k m ≡ Equal) (sym (same_key-true l k y)) (key_itself k) in
      let absurdly : Less ≡ Equal = sym less ∙ equal in
      cc
  | inr n ↦ n
]

none_later : (k : List Value) (es : List Entry) → AllByRecursion (λ l. key_cmp k l ≡ Less) (map (λ e. e.0) es) → ((e : Entry) → Has es e → IsKeyed e) → filter (is_of k) (versions_in es) ≡ []
none_later k [] less h = refl
none_later k (e ∷ es) less h =
    filter-append (is_of k) (map version_of e.1) (versions_in es)
    ∙ ap (λ vs. vs ++ filter (is_of k) (versions_in es)) (none_of_list k e.0 (map version_of e.1) (later_differs k e.0 less.0) (h e (inl refl)))
    ∙ none_later k es less.1 (λ x i. h x (inr i))

found : (k : List Value) (es : List Entry) → IsStrictlySortedBy key_cmp (map (λ e. e.0) es) → ((e : Entry) → Has es e → IsKeyed e) → filter (is_of k) (versions_in es) ≡ list_in (lookup (λ q. is_eq (key_cmp k q)) es)
unfolding IsStrictlySortedBy same_key
found k [] s h = refl
found k (e ∷ es) s h = elim (cases_Bool (same_key k e.0)) [
  | inl same ↦
      let equal = same_key-true k e.0 same in
      let mine : list_all (is_of k) (map version_of e.1) ≡ true = subst (λ l. list_all (is_of l) (map version_of e.1) ≡ true) (sym equal) (h e (inl refl)) in
      rw same
      (filter-append (is_of k) (map version_of e.1) (versions_in es)
      ∙ ap (λ vs. vs ++ filter (is_of k) (versions_in es)) (all_of_list k (map version_of e.1) mine)
      ∙ ap (λ vs. map version_of e.1 ++ vs) (none_later k es (subst (λ l. AllByRecursion (λ m. key_cmp l m ≡ Less) (map (λ x. x.0) es)) (sym equal) s.0) (λ x i. h x (inr i)))
      ∙ append-nil (map version_of e.1))
  | inr other ↦
      rw other
      (filter-append (is_of k) (map version_of e.1) (versions_in es)
      ∙ ap (λ vs. vs ++ filter (is_of k) (versions_in es)) (none_of_list k e.0 (map version_of e.1) (turned k e.0 false other) (h e (inl refl)))
      ∙ found k es s.1 (λ x i. h x (inr i)))
]

module _ (m : Map) (ordered : IsOrdered key_cmp m) (of_keys : (k : List Value) → list_all (is_of k) (lists_of m k) ≡ true) where
  entry_found : (e : Entry) → Has m.entries e → get key_cmp m e.0 ≡ Some e.1
  entry_found e h =
      let at = has_contains m.entries e h in
      subst (λ x. get key_cmp m x.0 ≡ Some x.1) at.2 (All-found key_total m ordered at.0 e at.1)

  entry_keyed : (e : Entry) → Has m.entries e → IsKeyed e
  entry_keyed e h = subst (λ vs. list_all (is_of e.0) vs ≡ true) (ap list_in (entry_found e h)) (of_keys e.0)

  pub list_of_key : (k : List Value) → filter (is_of k) (versions_in m.entries) ≡ lists_of m k
  list_of_key k = found k m.entries ordered entry_keyed
