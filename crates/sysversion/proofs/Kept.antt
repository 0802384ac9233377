-- Lists of each key's versions, one of which changes.
use Rattle.std.proofs.Common.{◌≡◌, ℕ, ◌<◌, ◌≤◌, true, false, ◌&&◌, cond, List, [], ◌∷◌, ◌++◌, map, filter, length, refl, sym, ap, ◌∙◌, subst, inl, inr, arith, append_assoc}
use Rattle.std.proofs.lemmas.Bool.{cases_Bool, cases_lt}
use Rattle.std.proofs.lemmas.List.{append-nil, length-append, length-map}
use Rattle.std.specs.List.{list_all}
use Rattle.std.specs.BTreeMap.{IsOrdered}
use Rattle.model.specs.declared.value.Value.{Value}
use Rattle.model.specs.Values.{same_key, key_cmp}
use Rattle.model.specs.Tables.{Row}
use Rattle.rowlaws.specs.Rows.{Has}
use Rattle.rowlaws.proofs.Keys.{same_key-true, same_key-itself}
use Rattle.rowlaws.proofs.Members.{has_filter, filter_has}
use Rattle.current.specs.declared.row.Row.{Row as Declared}
use Rattle.current.specs.Rows.{row_of}
use Rattle.versionlaws.specs.Versions.{Version}
use Rattle.versionlaws.specs.ByKey.{is_of, SameByKey}
use Rattle.versionlaws.specs.Committing.{ended, opened, committed}
use Rattle.sysversion.specs.Lists.{Lists, Map, lists_of, versions_in, with_list, rows_of}
use Rattle.sysversion.proofs.Ending.{all_ended, ended_more, committed_of_key}
use Rattle.sysversion.proofs.OfKey.{list_of_key}

-- each list has versions of its key alone
abbrev pub AreKeyed : Lists → Type 0
AreKeyed lists = (k : List Value) → list_all (is_of k) (lists k) ≡ true

-- no key with versions has more columns
abbrev pub AreShort : ℕ → Lists → Type 0
AreShort columns lists = (k : List Value) → columns < length k → length (lists k) ≡ 0

-- and some key with versions has so many
abbrev pub IsLeast : ℕ → Lists → Type 0
IsLeast columns lists = (n : ℕ) → AreShort n lists → columns ≤ n

with_keyed : (key : List Value) (vs : List Version) (lists more : Lists) → more ≡ with_list key vs lists → AreKeyed lists → list_all (is_of key) vs ≡ true → AreKeyed more
with_keyed key vs lists more e h here k = subst (λ l. list_all (is_of k) (l k) ≡ true) (sym e) (elim (cases_Bool (same_key key k)) [
  | inl same ↦ rw same (subst (λ l. list_all (is_of l) vs ≡ true) (same_key-true key k same) here)
  | inr other ↦ rw other (h k)
])

with_short : (columns : ℕ) (key : List Value) (vs : List Version) (lists more : Lists) → more ≡ with_list key vs lists → AreShort columns lists → (columns < length key → length vs ≡ 0) → AreShort columns more
with_short columns key vs lists more e h here k l = subst (λ f. length (f k) ≡ 0) (sym e) (elim (cases_Bool (same_key key k)) [
  | inl same ↦ rw same (here (let long : length key ≡ length k = ap length (same_key-true key k same) in omega (arith, l, long)))
  | inr other ↦ rw other (h k l)
])

-- ---- versions end

module _ (t : ℕ) (r : Row) (lists more : Lists) (e : more ≡ with_list r.key (map (ended t (r ∷ [])) (lists r.key)) lists) where
  pub end_keyed : AreKeyed lists → AreKeyed more
  end_keyed h = with_keyed r.key (map (ended t (r ∷ [])) (lists r.key)) lists more e h (all_ended r.key t (r ∷ []) (lists r.key) ∙ h r.key)

  pub end_short : (columns : ℕ) → AreShort columns lists → AreShort columns more
  end_short columns h = with_short columns r.key (map (ended t (r ∷ [])) (lists r.key)) lists more e h (λ l. length-map (lists r.key) (ended t (r ∷ [])) ∙ h r.key l)

  end_length : (k : List Value) → length (more k) ≡ length (lists k)
  end_length k = ap (λ f. length (f k)) e ∙ elim (cases_Bool (same_key r.key k)) [
    | inl same ↦ rw same (length-map (lists r.key) (ended t (r ∷ [])) ∙ ap (λ l. length (lists l)) (same_key-true r.key k same))
    | inr other ↦ rw other refl
  ]

  pub end_least : (columns : ℕ) → IsLeast columns lists → IsLeast columns more
  end_least columns h n short = h n (λ k l. sym (end_length k) ∙ short k l)

  pub end_more : (rs : List Row) (key : List Value) → map (ended t (rows_of key rs)) (more key) ≡ map (ended t (rows_of key (r ∷ rs))) (lists key)
  end_more rs key = ap (λ f. map (ended t (rows_of key rs)) (f key)) e ∙ elim (cases_Bool (same_key r.key key)) [
    | inl same ↦ rw same (ap (λ k. map (ended t (rows_of key rs)) (map (ended t (r ∷ [])) (lists k))) (same_key-true r.key key same) ∙ sym (ended_more t r (rows_of key rs) (lists key)))
    | inr other ↦ rw other refl
  ]

-- ---- a version opens

all_one_more : (key : List Value) (vs : List Version) (v : Version) → list_all (is_of key) vs ≡ true → is_of key v ≡ true → list_all (is_of key) (vs ++ v ∷ []) ≡ true
all_one_more key [] v all mine = rw mine refl
all_one_more key (w ∷ vs) v all mine = elim (cases_Bool (is_of key w)) [
  | inl y ↦ rw y (all_one_more key vs v (subst (λ b. (b && list_all (is_of key) vs) ≡ true) y all) mine)
  | inr n ↦ let no : false ≡ true = subst (λ b. (b && list_all (is_of key) vs) ≡ true) n all in cc
]

rows_append : (key : List Value) (rs : List Declared) (r : Declared) → rows_of key (map row_of (rs ++ r ∷ [])) ≡ rows_of key (map row_of rs) ++ cond (same_key r.key key) (row_of r ∷ []) []
rows_append key [] r = refl
rows_append key (s ∷ rs) r = elim (cases_Bool (same_key s.key key)) [
  | inl y ↦ rw y (ap (λ more. row_of s ∷ more) (rows_append key rs r))
  | inr n ↦ rw n (rows_append key rs r)
]

opened_append : (rs ss : List Row) → map opened (rs ++ ss) ≡ map opened rs ++ map opened ss
opened_append [] ss = refl
opened_append (r ∷ rs) ss = ap (λ more. opened r ∷ more) (opened_append rs ss)

module _ (r : Declared) (lists more : Lists) (e : more ≡ with_list r.key (lists r.key ++ opened (row_of r) ∷ []) lists) where
  pub open_keyed : AreKeyed lists → AreKeyed more
  open_keyed h = with_keyed r.key (lists r.key ++ opened (row_of r) ∷ []) lists more e h (all_one_more r.key (lists r.key) (opened (row_of r)) (h r.key) (same_key-itself r.key))

  pub open_short : (columns next : ℕ) → columns ≤ next → length r.key ≤ next → AreShort columns lists → AreShort next more
  open_short columns next le long h =
      with_short next r.key (lists r.key ++ opened (row_of r) ∷ []) lists more e (λ k l. h k (omega arith)) (λ l. absurd (omega arith))

  open_length : (k : List Value) → length (lists k) ≤ length (more k)
  open_length k = subst (λ f. length (lists k) ≤ length (f k)) (sym e) (elim (cases_Bool (same_key r.key k)) [
    | inl same ↦
        let long = length-append (lists r.key) (opened (row_of r) ∷ []) in
        let one : length (lists r.key) ≡ length (lists k) = ap (λ l. length (lists l)) (same_key-true r.key k same) in
        rw same (omega (arith, long, one))
    | inr other ↦ rw other (omega arith)
  ])

  open_some : length (more r.key) ≡ 0 → ⊥
  open_some none =
      let here : length (with_list r.key (lists r.key ++ opened (row_of r) ∷ []) lists r.key) ≡ 0 = subst (λ f. length (f r.key) ≡ 0) e none in
      let added : length (lists r.key ++ opened (row_of r) ∷ []) ≡ 0 = subst (λ b. length (cond b (lists r.key ++ opened (row_of r) ∷ []) (lists r.key)) ≡ 0) (same_key-itself r.key) here in
      let long = length-append (lists r.key) (opened (row_of r) ∷ []) in
      omega (arith, added, long)

  pub open_least : (columns : ℕ) → IsLeast columns lists → (n : ℕ) → AreShort n more → (columns ≤ n) × (length r.key ≤ n)
  open_least columns h n short = (
    h n (λ k l. let none = short k l in let le = open_length k in omega (arith, none, le)),
    elim (cases_lt n (length r.key)) [ inl l ↦ absurd (open_some (short r.key l)) | inr g ↦ g ],
  )

  pub open_more : (rs : List Declared) (old : List Version) (key : List Value) → lists key ≡ old ++ map opened (rows_of key (map row_of rs)) → more key ≡ old ++ map opened (rows_of key (map row_of (rs ++ r ∷ [])))
  open_more rs old key h =
      let mine : List Version = map opened (rows_of key (map row_of rs)) in
      let next : map opened (rows_of key (map row_of (rs ++ r ∷ []))) ≡ mine ++ map opened (cond (same_key r.key key) (row_of r ∷ []) []) =
      ap (map opened) (rows_append key rs r) ∙ opened_append (rows_of key (map row_of rs)) (cond (same_key r.key key) (row_of r ∷ []) []) in
      ap (λ f. f key) e ∙ elim (cases_Bool (same_key r.key key)) [
        | inl same ↦
            rw same (ap (λ k. lists k ++ opened (row_of r) ∷ []) (same_key-true r.key key same) ∙ ap (λ vs. vs ++ opened (row_of r) ∷ []) h ∙ append_assoc old mine (opened (row_of r) ∷ [])
            ∙ ap (λ vs. old ++ vs) (sym (next ∙ ap (λ b. mine ++ map opened (cond b (row_of r ∷ []) [])) same)))
        | inr other ↦
            rw other (h ∙ ap (λ vs. old ++ vs) (sym (next ∙ ap (λ b. mine ++ map opened (cond b (row_of r ∷ []) [])) other ∙ append-nil mine)))
      ]

-- ---- what is committed, and the versions of a key

pub commit_same : (m n : Map) → IsOrdered key_cmp m → IsOrdered key_cmp n → AreKeyed (lists_of m) → AreKeyed (lists_of n) → (t : ℕ) (removed added : List Row) →
    ((key : List Value) → lists_of n key ≡ map (ended t (rows_of key removed)) (lists_of m key) ++ map opened (rows_of key added)) →
    SameByKey (versions_in n.entries) (committed t removed added (versions_in m.entries))
commit_same m n o p f g t removed added each key =
    list_of_key n p g key ∙ each key ∙ sym (committed_of_key key t removed added (versions_in m.entries) (lists_of m key) (list_of_key m o f key) (f key))

empty_has : {A : Type 0} (xs : List A) (z : A) → length xs ≡ 0 → Has xs z → ⊥
empty_has [] z e h = h
empty_has (x ∷ xs) z e h = absurd (omega (arith, e))

pub short_key : (m : Map) → IsOrdered key_cmp m → AreKeyed (lists_of m) → (columns : ℕ) → AreShort columns (lists_of m) → (v : Version) → Has (versions_in m.entries) v → length v.row.key ≤ columns
short_key m o f columns short v h = elim (cases_lt columns (length v.row.key)) [
  | inl l ↦
      let there : Has (lists_of m v.row.key) v = subst (λ vs. Has vs v) (list_of_key m o f v.row.key) (has_filter (is_of v.row.key) (versions_in m.entries) v h (same_key-itself v.row.key)) in
      absurd (empty_has (lists_of m v.row.key) v (short v.row.key l) there)
  | inr g ↦ g
]

pub least_key : (m : Map) → IsOrdered key_cmp m → AreKeyed (lists_of m) → (columns : ℕ) → IsLeast columns (lists_of m) → (n : ℕ) → ((v : Version) → Has (versions_in m.entries) v → length v.row.key ≤ n) → columns ≤ n
least_key m o f columns least n h = least n (λ k l. none k l (lists_of m k) (list_of_key m o f k))
  where
    none : (k : List Value) → n < length k → (vs : List Version) → filter (is_of k) (versions_in m.entries) ≡ vs → length vs ≡ 0
    none k l [] e = refl
    none k l (v ∷ vs) e =
        let there = filter_has (is_of k) (versions_in m.entries) v (subst (λ ws. Has ws v) (sym e) (inl refl)) in
        let le = h v there.0 in
        let long : length v.row.key ≡ length k = ap length (same_key-true v.row.key k there.1) in
        absurd (omega (arith, l, le, long))
