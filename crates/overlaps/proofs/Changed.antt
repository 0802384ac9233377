-- What becomes of an index where its map changes at one key.
use Rattle.std.proofs.Common.{◌≡◌, ◌⊎◌, Result, Ok, Err, ◌==◌, ◌∷◌, length, Bool, true, false, List, [], Option, Some, refl, sym, ap, ◌∙◌, subst, inl, inr, map, arith, cond}
use Rattle.std.specs.BTreeMap.{BTreeMap, get, get_by, UpdatesBy, WritesThrough}
use Rattle.std.specs.Map.{lookup, set_value}
use Rattle.std.specs.Ordering.{is_eq}
use Rattle.std.specs.Option.{IsSome}
use Rattle.std.specs.Result.{OnOk, OnErr}
use Rattle.std.specs.Cmp.{Equal-is}
use Rattle.std.proofs.lemmas.Bool.{cases_Bool, eqb-true}
use Rattle.model.specs.declared.value.Value.{Value}
use Rattle.model.specs.Values.{key_cmp, same_key}
use Rattle.model.specs.Tables.{Period}
use Rattle.overlaps.specs.Index.{AreApart, changed_at}
use Rattle.overlaps.specs.Key.{key_cmp_total}
use Rattle.overlaps.specs.Items.{items_of, items_in}

abbrev pub Map : Type 0 → Type 0
Map T = BTreeMap (List Value) (List T)

-- equal keys have the same items
same_items : {T : Type 0} (m : Map T) (key k : List Value) → same_key key k ≡ true → items_of m key ≡ items_of m k
unfolding same_key
same_items m key k same =
    let equal = (Equal-is (key_cmp key k)).0 same in
    let alike : key_cmp key ≡ key_cmp k = λ i q. key_cmp_total.congr key k q equal i in
    ap (λ compare. items_in (get_by compare m)) alike

pub items-changed : {T : Type 0} (m n : Map T) (key : List Value) (w : Option (List T)) (change : List T → List T) → UpdatesBy key_cmp (key_cmp key) m n w → items_in w ≡ change (items_of m key) → items_of n ≡ changed_at key change (items_of m)
unfolding same_key
items-changed {T} m n key w change updates here = λ i k. at k i
  where
    at : (k : List Value) → items_of n k ≡ changed_at key change (items_of m) k
    at k = elim (cases_Bool (same_key key k)) [
      | inl same ↦
          let picked : cond (same_key key k) w (get key_cmp m k) ≡ w = rw same refl in
          let changed : changed_at key change (items_of m) k ≡ change (items_of m k) = rw same refl in
          ap items_in (updates.0 k ∙ picked) ∙ here ∙ ap change (same_items m key k same) ∙ sym changed
      | inr other ↦
          let picked : cond (same_key key k) w (get key_cmp m k) ≡ get key_cmp m k = rw other refl in
          let kept : changed_at key change (items_of m) k ≡ items_of m k = rw other refl in
          ap items_in (updates.0 k ∙ picked) ∙ sym kept
    ]

-- a change that leaves the key's items as they are changes nothing
pub items-same : {T : Type 0} (m : Map T) (key : List Value) (change : List T → List T) → items_of m key ≡ change (items_of m key) → items_of m ≡ changed_at key change (items_of m)
items-same {T} m key change here = λ i k. at k i
  where
    at : (k : List Value) → items_of m k ≡ changed_at key change (items_of m) k
    at k = elim (cases_Bool (same_key key k)) [
      | inl same ↦
          let changed : changed_at key change (items_of m) k ≡ change (items_of m k) = rw same refl in
          let e = same_items m key k same in
          sym e ∙ here ∙ ap change e ∙ sym changed
      | inr other ↦ let kept : changed_at key change (items_of m) k ≡ items_of m k = rw other refl in sym kept
    ]

pub items-kept : {T : Type 0} (m n : Map T) (key : List Value) (w : Option (List T)) → UpdatesBy key_cmp (key_cmp key) m n w → items_in w ≡ items_of m key → items_of n ≡ items_of m
items-kept m n key w updates here = items-changed m n key w (λ items. items) updates here ∙ sym (items-same m key (λ items. items) refl)

pub apart_changed : {T : Type 0} (period : T → Period) (m n : Map T) (key : List Value) (change : List T → List T) → items_of n ≡ changed_at key change (items_of m) → ((k : List Value) → AreApart (map period (items_of m k))) → AreApart (map period (change (items_of m key))) → (k : List Value) → AreApart (map period (items_of n k))
apart_changed period m n key change changed apart here k = subst (λ items. AreApart (map period items)) (sym (ap (λ index. index k) changed)) (elim (cases_Bool (same_key key k)) [
  | inl same ↦ rw same (subst (λ items. AreApart (map period (change items))) (same_items m key k same) here)
  | inr other ↦ rw other (apart k)
])

pub kept_apart : {T : Type 0} (period : T → Period) (m n : Map T) → items_of n ≡ items_of m → ((k : List Value) → AreApart (map period (items_of m k))) → (k : List Value) → AreApart (map period (items_of n k))
kept_apart period m n kept apart k = subst (λ index. AreApart (map period (index k))) (sym kept) (apart k)

-- ---- what `get_mut` lent was written

updates_from_write : {T : Type 0} (m n : Map T) (key : List Value) (v w : List T) → Some v ≡ get key_cmp m key → WritesThrough key_cmp (key_cmp key) m w n → UpdatesBy key_cmp (key_cmp key) m n (Some w)
updates_from_write m n key v w value writes = writes.3 (subst IsSome value refl)

pub items-written : {T : Type 0} (m n : Map T) (key : List Value) (v w : List T) (change : List T → List T) → Some v ≡ get key_cmp m key → WritesThrough key_cmp (key_cmp key) m w n → w ≡ change v → items_of n ≡ changed_at key change (items_of m)
items-written m n key v w change value writes here = items-changed m n key (Some w) change (updates_from_write m n key v w value writes) (here ∙ ap change (ap items_in value))

pub items-written_back : {T : Type 0} (m n : Map T) (key : List Value) (v w : List T) → Some v ≡ get key_cmp m key → WritesThrough key_cmp (key_cmp key) m w n → w ≡ v → items_of n ≡ items_of m
items-written_back m n key v w value writes here = items-kept m n key (Some w) (updates_from_write m n key v w value writes) (here ∙ ap items_in value)

set_back : {T : Type 0} (test : List Value → Bool) (es : List (List Value × List T)) (v w : List T) → lookup test es ≡ Some v → w ≡ v → set_value test es w ≡ es
set_back test [] v w h same = refl
set_back {T} test (e ∷ es) v w h same = by (test e.0) h (set_back test es v w)
  where
    by : (b : Bool) → cond b (Some e.1) (lookup test es) ≡ Some v → (lookup test es ≡ Some v → w ≡ v → set_value test es w ≡ es) → cond b ((e.0, w) ∷ es) (e ∷ set_value test es w) ≡ e ∷ es
    by true g more = let f : e.1 ≡ v = cc in ap (λ x. (e.0, x) ∷ es) (same ∙ sym f)
    by false g more = ap (λ rest. e ∷ rest) (more g same)

pub entries-written_back : {T : Type 0} (m n : Map T) (key : List Value) (v w : List T) → Some v ≡ get key_cmp m key → WritesThrough key_cmp (key_cmp key) m w n → w ≡ v → n.entries ≡ m.entries
entries-written_back m n key v w value writes same = writes.0 ∙ set_back (λ q. is_eq (key_cmp key q)) m.entries v w (sym value) same

pub none_from_is_empty : {T : Type 0} (xs : List T) → (length xs == 0) ≡ true → xs ≡ []
none_from_is_empty [] e = refl
none_from_is_empty (x ∷ xs) e = let none = eqb-true (length (x ∷ xs)) 0 e in absurd (omega arith)

-- ---- results

pub either : {A E : Type 0} (r : Result A E) {P Q : Type 0} → OnOk r P → OnErr r Q → P ⊎ Q
either (Ok a) ok err = inl ok
either (Err e) ok err = inr err

pub on_ok : {A E : Type 0} (r : Result A E) {P Q : Type 0} → (P → Q) → OnOk r P → OnOk r Q
on_ok (Ok a) f ok = f ok
on_ok (Err e) f ok = ok

pub on_err : {A E : Type 0} (r : Result A E) {P Q : Type 0} → (P → Q) → OnErr r P → OnErr r Q
on_err (Ok a) f err = err
on_err (Err e) f err = f err

pub on_err_too : {A E : Type 0} (r : Result A E) {P : Type 0} → P → OnErr r P
on_err_too (Ok a) h = tt
on_err_too (Err e) h = h
