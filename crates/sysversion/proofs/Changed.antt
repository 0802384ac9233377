-- What becomes of the lists where the map changes at one key.
use Rattle.std.proofs.Common.{◌≡◌, Result, Ok, Err, true, List, Option, Some, refl, sym, ap, ◌∙◌, subst, inl, inr, map, cond}
use Rattle.std.specs.BTreeMap.{get, get_by, UpdatesBy, WritesThrough}
use Rattle.std.specs.Option.{IsSome}
use Rattle.std.specs.Result.{OnOk, OnErr}
use Rattle.std.specs.Cmp.{Equal-is}
use Rattle.std.proofs.lemmas.Bool.{cases_Bool}
use Rattle.model.specs.declared.value.Value.{Value}
use Rattle.model.specs.Values.{key_cmp, same_key}
use Rattle.overlaps.specs.Key.{key_cmp_total}
use Rattle.versionlaws.specs.Versions.{Version}
use Rattle.sysversion.specs.declared.version.Version.{Version as Declared}
use Rattle.sysversion.specs.Lists.{Map, version_of, list_in, lists_of, with_list}

-- equal keys have the same versions
pub same_lists : (m : Map) (key k : List Value) → same_key key k ≡ true → lists_of m key ≡ lists_of m k
unfolding same_key
same_lists m key k same =
    let equal = (Equal-is (key_cmp key k)).0 same in
    let alike : key_cmp key ≡ key_cmp k = λ i q. key_cmp_total.congr key k q equal i in
    ap (λ compare. list_in (get_by compare m)) alike

pub lists_changed : (m n : Map) (key : List Value) (w : Option (List Declared)) (versions : List Version) → UpdatesBy key_cmp (key_cmp key) m n w → list_in w ≡ versions → lists_of n ≡ with_list key versions (lists_of m)
unfolding same_key
lists_changed m n key w versions updates here = λ i k. at k i
  where
    at : (k : List Value) → lists_of n k ≡ with_list key versions (lists_of m) k
    at k = ap list_in (updates.0 k) ∙ elim (cases_Bool (same_key key k)) [
      | inl same ↦ ap (λ b. list_in (cond b w (get key_cmp m k))) same ∙ here ∙ sym (ap (λ b. cond b versions (lists_of m k)) same)
      | inr other ↦ ap (λ b. list_in (cond b w (get key_cmp m k))) other ∙ sym (ap (λ b. cond b versions (lists_of m k)) other)
    ]

-- a change that leaves the key's versions as they are changes nothing
pub lists_same : (m : Map) (key : List Value) (versions : List Version) → lists_of m key ≡ versions → lists_of m ≡ with_list key versions (lists_of m)
lists_same m key versions here = λ i k. at k i
  where
    at : (k : List Value) → lists_of m k ≡ with_list key versions (lists_of m) k
    at k = elim (cases_Bool (same_key key k)) [
      | inl same ↦ sym (same_lists m key k same) ∙ here ∙ sym (ap (λ b. cond b versions (lists_of m k)) same)
      | inr other ↦ sym (ap (λ b. cond b versions (lists_of m k)) other)
    ]

-- ---- what `get_mut` lent was written

updates_from_write : (m n : Map) (key : List Value) (v w : List Declared) → Some v ≡ get key_cmp m key → WritesThrough key_cmp (key_cmp key) m w n → UpdatesBy key_cmp (key_cmp key) m n (Some w)
updates_from_write m n key v w value writes = writes.3 (subst IsSome value refl)

pub lists_written : (m n : Map) (key : List Value) (v w : List Declared) (versions : List Version) → Some v ≡ get key_cmp m key → WritesThrough key_cmp (key_cmp key) m w n → map version_of w ≡ versions → lists_of n ≡ with_list key versions (lists_of m)
lists_written m n key v w versions value writes here = lists_changed m n key (Some w) versions (updates_from_write m n key v w value writes) here

pub lists_written_back : (m n : Map) (key : List Value) (v w : List Declared) → Some v ≡ get key_cmp m key → WritesThrough key_cmp (key_cmp key) m w n → w ≡ v → lists_of n ≡ lists_of m
lists_written_back m n key v w value writes here =
    lists_written m n key v w (lists_of m key) value writes (ap (map version_of) here ∙ ap list_in value) ∙ sym (lists_same m key (lists_of m key) refl)

-- ---- results

pub on_ok : {A E : Type 0} (r : Result A E) {P Q : Type 0} → (P → Q) → OnOk r P → OnOk r Q
on_ok (Ok a) f ok = f ok
on_ok (Err e) f ok = ok

pub on_err : {A E : Type 0} (r : Result A E) {P Q : Type 0} → (P → Q) → OnErr r P → OnErr r Q
on_err (Ok a) f err = err
on_err (Err e) f err = f err
