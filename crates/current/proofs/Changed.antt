-- What becomes of the strands where the map changes at one key.
use Rattle.std.proofs.Common.{◌≡◌, Result, Ok, Err, true, false, ◌==◌, ◌∷◌, length, List, [], Option, Some, refl, sym, ap, ◌∙◌, subst, inl, inr, map, arith, cond}
use Rattle.std.specs.BTreeMap.{get, get_by, UpdatesBy, WritesThrough}
use Rattle.std.specs.Option.{IsSome}
use Rattle.std.specs.Result.{OnOk, OnErr}
use Rattle.std.specs.Cmp.{Equal-is}
use Rattle.std.proofs.lemmas.Bool.{cases_Bool, eqb-true}
use Rattle.model.specs.declared.value.Value.{Value}
use Rattle.model.specs.Values.{key_cmp, same_key}
use Rattle.model.specs.Tables.{Row}
use Rattle.overlaps.specs.Key.{key_cmp_total}
use Rattle.current.specs.declared.row.Row.{Row as Declared}
use Rattle.current.specs.Rows.{row_of}
use Rattle.current.specs.Plans.{instead}
use Rattle.current.specs.ByKey.{Map, strand_in, strands_of, with_strand}

-- equal keys have the same rows
pub same_got : (m : Map) (key k : List Value) → same_key key k ≡ true → get key_cmp m key ≡ get key_cmp m k
unfolding same_key
same_got m key k same =
    let equal = (Equal-is (key_cmp key k)).0 same in
    let alike : key_cmp key ≡ key_cmp k = λ i q. key_cmp_total.congr key k q equal i in
    ap (λ compare. get_by compare m) alike

pub same_strands : (m : Map) (key k : List Value) → same_key key k ≡ true → strands_of m key ≡ strands_of m k
same_strands m key k same = ap strand_in (same_got m key k same)

pub strands_changed : (m n : Map) (key : List Value) (w : Option (List Declared)) (rows : List Row) → UpdatesBy key_cmp (key_cmp key) m n w → strand_in w ≡ rows → strands_of n ≡ with_strand key rows (strands_of m)
unfolding same_key
strands_changed m n key w rows updates here = λ i k. at k i
  where
    at : (k : List Value) → strands_of n k ≡ with_strand key rows (strands_of m) k
    at k = ap strand_in (updates.0 k) ∙ elim (cases_Bool (same_key key k)) [
      | inl same ↦ ap (λ b. strand_in (cond b w (get key_cmp m k))) same ∙ here ∙ sym (ap (λ b. cond b rows (strands_of m k)) same)
      | inr other ↦ ap (λ b. strand_in (cond b w (get key_cmp m k))) other ∙ sym (ap (λ b. cond b rows (strands_of m k)) other)
    ]

-- an action that leaves the key's rows as they are changes nothing
pub strands_same : (m : Map) (key : List Value) (rows : List Row) → strands_of m key ≡ rows → strands_of m ≡ with_strand key rows (strands_of m)
strands_same m key rows here = λ i k. at k i
  where
    at : (k : List Value) → strands_of m k ≡ with_strand key rows (strands_of m) k
    at k = elim (cases_Bool (same_key key k)) [
      | inl same ↦ sym (same_strands m key k same) ∙ here ∙ sym (ap (λ b. cond b rows (strands_of m k)) same)
      | inr other ↦ sym (ap (λ b. cond b rows (strands_of m k)) other)
    ]

pub strands_kept : (m n : Map) (key : List Value) (w : Option (List Declared)) → UpdatesBy key_cmp (key_cmp key) m n w → strand_in w ≡ strands_of m key → strands_of n ≡ strands_of m
strands_kept m n key w updates here = strands_changed m n key w (strands_of m key) updates here ∙ sym (strands_same m key (strands_of m key) refl)

-- ---- what `get_mut` lent was written

updates_from_write : (m n : Map) (key : List Value) (v w : List Declared) → Some v ≡ get key_cmp m key → WritesThrough key_cmp (key_cmp key) m w n → UpdatesBy key_cmp (key_cmp key) m n (Some w)
updates_from_write m n key v w value writes = writes.3 (subst IsSome value refl)

pub strands_written : (m n : Map) (key : List Value) (v w : List Declared) (rows : List Row) → Some v ≡ get key_cmp m key → WritesThrough key_cmp (key_cmp key) m w n → map row_of w ≡ rows → strands_of n ≡ with_strand key rows (strands_of m)
strands_written m n key v w rows value writes here = strands_changed m n key (Some w) rows (updates_from_write m n key v w value writes) here

pub strands_written_back : (m n : Map) (key : List Value) (v w : List Declared) → Some v ≡ get key_cmp m key → WritesThrough key_cmp (key_cmp key) m w n → w ≡ v → strands_of n ≡ strands_of m
strands_written_back m n key v w value writes here = strands_kept m n key (Some w) (updates_from_write m n key v w value writes) (ap (map row_of) here ∙ ap strand_in value)

pub none_from_is_empty : (rows : List Declared) → (length rows == 0) ≡ true → map row_of rows ≡ []
none_from_is_empty [] e = refl
none_from_is_empty (q ∷ qs) e = let none = eqb-true (length (q ∷ qs)) 0 e in absurd (omega arith)

-- ---- results

pub on_ok : {A E : Type 0} (r : Result A E) {P Q : Type 0} → (P → Q) → OnOk r P → OnOk r Q
on_ok (Ok a) f ok = f ok
on_ok (Err e) f ok = ok

pub on_err : {A E : Type 0} (r : Result A E) {P Q : Type 0} → (P → Q) → OnErr r P → OnErr r Q
on_err (Ok a) f err = err
on_err (Err e) f err = f err

pub instead_none : (rows : List Declared) (more : List Row) → (length rows == 0) ≡ true → map row_of rows ≡ instead (map row_of rows) more
instead_none [] more e = refl
instead_none (q ∷ qs) more e = let none = eqb-true (length (q ∷ qs)) 0 e in absurd (omega arith)

pub instead_some : (rows : List Declared) (more : List Row) → (length rows == 0) ≡ false → more ≡ instead (map row_of rows) more
instead_some [] more e = cc
instead_some (q ∷ qs) more e = refl
