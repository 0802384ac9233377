-- Strands in the order of their keys, one after another, are rows in order of key and start; and which rows they have.
use Rattle.std.proofs.Common.{◌≡◌, ℕ, ◌<◌, Bool, true, false, cond, List, [], ◌∷◌, ◌++◌, map, flat_map, length, Option, Some, None, refl, sym, ap, ◌∙◌, subst, inl, inr, arith}
use Rattle.std.specs.declared.cmp.Ordering.{Ordering}
use Rattle.std.specs.declared.cmp.Ordering.TheVariants.{Less, Equal}
use Rattle.std.specs.List.{AllByRecursion}
use Rattle.std.specs.List.Sorted.{IsStrictlySortedBy}
use Rattle.std.specs.Ordering.{ordering_then, is_eq}
use Rattle.std.specs.Cmp.{nat_cmp_is}
use Rattle.model.specs.declared.value.Value.{Value}
use Rattle.model.specs.Values.{key_cmp}
use Rattle.model.specs.Tables.{Row}
use Rattle.rowlaws.specs.Rows.{Has, Apart}
use Rattle.rowlaws.specs.Covering.{place_cmp}
use Rattle.rowlaws.proofs.Keys.{key_total, key_itself}
use Rattle.std.specs.BTreeMap.{IsOrdered, get}
use Rattle.std.specs.Map.{lookup}
use Rattle.std.proofs.lemmas.Map.Views.{All-found}
use Rattle.rowlaws.proofs.Members.{has_flat, flat_has, pigeon}
use Rattle.rowlaws.proofs.Contents.{has_contains}
use Rattle.current.specs.declared.row.Row.{Row as Declared}
use Rattle.current.specs.Rows.{row_of}
use Rattle.current.specs.ByKey.{Map, strand_in, strands_of, rows_in, in_strand}
use Rattle.current.proofs.InStrand.{begins_strand, each_in_strand}

abbrev After : Row → List Row → Type 0
After r rs = AllByRecursion (λ s. place_cmp r s ≡ Less) rs

after_append : (r : Row) (xs ys : List Row) → After r xs → After r ys → After r (xs ++ ys)
after_append r [] ys a b = b
after_append r (x ∷ xs) ys a b = (a.0, after_append r xs ys a.1 b)

then_less : (o p : Ordering) → o ≡ Less → ordering_then o p ≡ Less
then_less o p h = rw h refl

then_equal : (o p : Ordering) → o ≡ Equal → p ≡ Less → ordering_then o p ≡ Less
then_equal o p h g = rw (h, g) refl

-- rows of one strand
after_in_strand : (k : List Value) (d : ℕ) (r : Row) (rs : List Row) → r.key ≡ k → r.period.start < d → in_strand k d rs ≡ true → After r rs
after_in_strand k d r [] key l h = tt
after_in_strand k d r (s ∷ rs) key l h =
    let b = begins_strand k d s rs h in
    let from = b.from in
    let some = b.some in
    (then_equal _ _ (subst (λ m. key_cmp r.key m ≡ Equal) (key ∙ sym b.key) (key_itself r.key)) (sym (nat_cmp_is r.period.start s.period.start Less (omega arith))), after_in_strand k s.period.end r rs key (omega arith) b.later)

strand_sorted : (k : List Value) (d : ℕ) (rs : List Row) → in_strand k d rs ≡ true → IsStrictlySortedBy place_cmp rs
unfolding IsStrictlySortedBy
strand_sorted k d [] h = tt
strand_sorted k d (r ∷ rs) h = let b = begins_strand k d r rs h in (after_in_strand k r.period.end r rs b.key b.some b.later, strand_sorted k r.period.end rs b.later)

sorted_append : (xs ys : List Row) → IsStrictlySortedBy place_cmp xs → IsStrictlySortedBy place_cmp ys → ((x : Row) → Has xs x → After x ys) → IsStrictlySortedBy place_cmp (xs ++ ys)
unfolding IsStrictlySortedBy
sorted_append [] ys a b f = b
sorted_append (x ∷ xs) ys a b f = (after_append x xs ys a.0 (f x (inl refl)), sorted_append xs ys a.1 b (λ z h. f z (inr h)))

after_strand : (r : Row) (k : List Value) (d : ℕ) (rs : List Row) → key_cmp r.key k ≡ Less → in_strand k d rs ≡ true → After r rs
after_strand r k d [] less h = tt
after_strand r k d (s ∷ rs) less h = let b = begins_strand k d s rs h in (then_less _ _ (subst (λ m. key_cmp r.key m ≡ Less) (sym b.key) less), after_strand r k s.period.end rs less b.later)

-- ---- strands of entries

module _ {A : Type 0} (key : A → List Value) (rows : A → List Row) where
  after_strands : (r : Row) (es : List A) → AllByRecursion (λ k. key_cmp r.key k ≡ Less) (map key es) → ((e : A) → Has es e → in_strand (key e) 0 (rows e) ≡ true) → After r (flat_map rows es)
  after_strands r [] a h = tt
  after_strands r (e ∷ es) a h = after_append r (rows e) (flat_map rows es) (after_strand r (key e) 0 (rows e) a.0 (h e (inl refl))) (after_strands r es a.1 (λ x g. h x (inr g)))

  pub strands_sorted : (es : List A) → IsStrictlySortedBy key_cmp (map key es) → ((e : A) → Has es e → in_strand (key e) 0 (rows e) ≡ true) → IsStrictlySortedBy place_cmp (flat_map rows es)
  unfolding IsStrictlySortedBy
  strands_sorted [] s h = tt
  strands_sorted (e ∷ es) s h =
      sorted_append (rows e) (flat_map rows es) (strand_sorted (key e) 0 (rows e) (h e (inl refl))) (strands_sorted es s.1 (λ x g. h x (inr g)))
      (λ x g. after_strands x es (subst (λ k. AllByRecursion (λ l. key_cmp k l ≡ Less) (map key es)) (sym (each_in_strand (key e) 0 (rows e) x (h e (inl refl)) g).key) s.0) (λ y i. h y (inr i)))

-- ---- rows in order are apart

same_place : (r : Row) → place_cmp r r ≡ Equal
same_place r = rw (key_itself r.key) (sym (nat_cmp_is r.period.start r.period.start Equal refl))

not_after : (r : Row) (rs : List Row) → After r rs → Has rs r → ⊥
not_after r [] a h = h
not_after r (s ∷ rs) a (inl e) = let b : place_cmp r s ≡ Equal = subst (λ x. place_cmp r x ≡ Equal) e (same_place r) in let c : Less ≡ Equal = sym a.0 ∙ b in cc
not_after r (s ∷ rs) a (inr h) = not_after r rs a.1 h

pub apart_sorted : (rs : List Row) → IsStrictlySortedBy place_cmp rs → Apart rs
unfolding IsStrictlySortedBy
apart_sorted [] s = tt
apart_sorted (r ∷ rs) s = (not_after r rs s.0, apart_sorted rs s.1)

pub same_length : (xs ys : List Row) → Apart xs → Apart ys → ((r : Row) → Has xs r → Has ys r) → ((r : Row) → Has ys r → Has xs r) → length xs ≡ length ys
same_length xs ys a b f g = let le = pigeon xs ys a f in let ge = pigeon ys xs b g in omega arith

-- ---- the rows of a map

lookup_has : {X : Type 0} (test : List Value → Bool) (es : List (List Value × X)) (v : X) → lookup test es ≡ Some v → (e : List Value × X) × Has es e × (e.1 ≡ v)
lookup_has test [] v h = cc
lookup_has {X} test (e ∷ es) v h = by (test e.0) h (lookup_has test es v)
  where
    by : (b : Bool) → cond b (Some e.1) (lookup test es) ≡ Some v → (lookup test es ≡ Some v → (x : List Value × X) × Has es x × (x.1 ≡ v)) → (x : List Value × X) × Has (e ∷ es) x × (x.1 ≡ v)
    by true g more = let same : e.1 ≡ v = cc in (e, inl refl, same)
    by false g more = let m = more g in (m.0, inr m.1, m.2)

module _ (m : Map) (ordered : IsOrdered key_cmp m) (in_strands : (k : List Value) → in_strand k 0 (strands_of m k) ≡ true) where
  pub entry_found : (e : List Value × List Declared) → Has m.entries e → get key_cmp m e.0 ≡ Some e.1
  entry_found e h =
      let at = has_contains m.entries e h in
      subst (λ x. get key_cmp m x.0 ≡ Some x.1) at.2 (All-found key_total m ordered at.0 e at.1)

  pub entry_strand : (e : List Value × List Declared) → Has m.entries e → strands_of m e.0 ≡ map row_of e.1
  entry_strand e h = ap strand_in (entry_found e h)

  pub entry_in_strand : (e : List Value × List Declared) → Has m.entries e → in_strand e.0 0 (map row_of e.1) ≡ true
  entry_in_strand e h = subst (λ rs. in_strand e.0 0 rs ≡ true) (entry_strand e h) (in_strands e.0)

  pub map_sorted : IsStrictlySortedBy place_cmp (rows_in m.entries)
  map_sorted = strands_sorted (λ e. e.0) (λ e. map row_of e.1) m.entries ordered entry_in_strand

  pub in_its_strand : (r : Row) → Has (rows_in m.entries) r → Has (strands_of m r.key) r
  in_its_strand r h =
      let f = flat_has (λ e. map row_of e.1) m.entries r h in
      let there : Has (strands_of m f.0.0) r = subst (λ rs. Has rs r) (sym (entry_strand f.0 f.1)) f.2 in
      subst (λ k. Has (strands_of m k) r) (sym (each_in_strand f.0.0 0 (strands_of m f.0.0) r (in_strands f.0.0) there).key) there

  in_option : (k : List Value) (r : Row) (o : Option (List Declared)) → get key_cmp m k ≡ o → Has (strand_in o) r → Has (rows_in m.entries) r
  in_option k r None e h = absurd h
  in_option k r (Some v) e h =
      let l = lookup_has (λ q. is_eq (key_cmp k q)) m.entries v e in
      has_flat (λ x. map row_of x.1) m.entries l.0 r l.1 (subst (λ w. Has (map row_of w) r) (sym l.2) h)

  pub in_all : (k : List Value) (r : Row) → Has (strands_of m k) r → Has (rows_in m.entries) r
  in_all k r h = in_option k r (get key_cmp m k) refl h
