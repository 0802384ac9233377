-- The first day without a parent, on days and on lists of rows in order.
use Rattle.std.proofs.Common.{◌≡◌, ℕ, ◌<◌, ◌≤◌, ◌⊎◌, inl, inr, Bool, true, false, cond, not, ◌&&◌, ◌==◌, List, [], ◌∷◌, map, flat_map, Option, Some, None, option_map, is_some, refl, sym, ap, ◌∙◌, subst, arith}
use Rattle.std.specs.Prelude.{find}
use Rattle.std.specs.Option.{option_or}
use Rattle.std.specs.declared.cmp.Ordering.TheVariants.{Less, Equal, Greater}
use Rattle.std.specs.Ordering.{ordering_reverse, nat_cmp}
use Rattle.std.specs.List.{list_any, range_with_len, AllByRecursion}
use Rattle.std.specs.List.Sorted.{IsStrictlySortedBy}
use Rattle.std.proofs.lemmas.List.Folds.{find-append}
use Rattle.std.proofs.lemmas.List.Elements.{All-from_recursion}
use Rattle.std.proofs.lemmas.List.Kept.{AllPairs-cons}
use Rattle.std.proofs.lemmas.Map.Keys.{sorted_head, sorted_tail}
use Rattle.std.proofs.lemmas.Bool.{cases_lt, cases_Bool, and_parts, and_from, le-leb, lt-ltb, leb-true, ltb-true}
use Rattle.model.specs.declared.value.Value.{Value}
use Rattle.model.specs.Values.{key_cmp, same_key}
use Rattle.model.specs.Tables.{days, Period, Fact, Table, Row, IsRow, inside}
use Rattle.rowlaws.specs.Rows.{Has, Lists}
use Rattle.model.specs.Statements.{days_of}
use Rattle.model.specs.Transactions.{State, Language, Reference, Place, lacks, is_orphan, first_orphan}
use Rattle.rowlaws.specs.Statements.{Rows, AllListed}
use Rattle.model.specs.Periods.{StartInOrder, is_free}
use Rattle.rowlaws.specs.Covering.{PeriodsInOrder, place_cmp, AllInOrder, periods_of, missing_by, missing, place_at, missing_in_rows, missing_in_tables, rows_orphan}
use Rattle.rowlaws.proofs.Keys.{key_total, key_same, key_itself, same_key-true, same_key-itself}
use Rattle.rowlaws.proofs.Members.{has_map, map_has, has_filter, filter_has}
use Rattle.rowlaws.proofs.RowFacts.{both, one_row}
use Rattle.rowlaws.proofs.Recut.{some_fact}
use Rattle.rowlaws.proofs.Anys.{any_has, has_any, same_test}
use Rattle.rowlaws.proofs.Orders.{then_less, nat_less}
use Rattle.rowlaws.proofs.Least.{IsLeast, least_same, least_or, find_least, find_day}

-- ---- small things

pub all_has : {A : Type 0} (P : A → Type 0) (xs : List A) (x : A) → AllByRecursion P xs → Has xs x → P x
all_has P [] x a h = absurd h
all_has P (y ∷ xs) x a (inl e) = subst P (sym e) a.0
all_has P (y ∷ xs) x a (inr h) = all_has P xs x a.1 h

find-map : {A B : Type 0} (f : B → Bool) (g : A → B) (xs : List A) → find f (map g xs) ≡ option_map g (find (λ x. f (g x)) xs)
find-map f g [] = refl
find-map f g (x ∷ xs) = elim (cases_Bool (f (g x))) [ inl y ↦ rw y refl | inr n ↦ rw n (find-map f g xs) ]

any_same : {A : Type 0} (f g : A → Bool) (xs : List A) → ((x : A) → f x ≡ g x) → list_any f xs ≡ list_any g xs
any_same f g [] h = refl
any_same f g (x ∷ xs) h = rw (h x, any_same f g xs h) refl

-- r is before s: by its key, or with one key by its start
pub place_less : (r s : Row) → place_cmp r s ≡ Less → (key_cmp r.key s.key ≡ Less) ⊎ ((r.key ≡ s.key) × (r.period.start < s.period.start))
place_less r s h = elim (then_less (key_cmp r.key s.key) (nat_cmp r.period.start s.period.start) h) [
  | inl a ↦ inl a
  | inr b ↦ inr (key_same r.key s.key b.0, nat_less r.period.start s.period.start b.1)
]

less_not_itself : (k l : List Value) → key_cmp k l ≡ Less → k ≡ l → ⊥
less_not_itself k l h e = let q : Less ≡ Equal = sym h ∙ ap (key_cmp k) (sym e) ∙ key_itself k in cc

less_not_back : (k l : List Value) → key_cmp k l ≡ Less → key_cmp l k ≡ Less → ⊥
less_not_back k l h g = let q : Less ≡ Greater = sym h ∙ key_total.antisymm k l ∙ ap ordering_reverse g in cc

-- ---- the first place of a table

abbrev pub place : ℕ → List Value → ℕ → Place
place n k d = record { table = n; key = k; day = d }

abbrev pub NotAfter : List Value → ℕ → List Value → ℕ → Type 0
NotAfter k d l e = (key_cmp k l ≡ Less) ⊎ ((k ≡ l) × (d ≤ e))

abbrev pub IsFirst : (Place → Bool) → ℕ → Option Place → Type 0
IsFirst f n None = (k : List Value) (d : ℕ) → f (place n k d) ≡ false
IsFirst f n (Some q) = (q.table ≡ n) × (f q ≡ true) × ((k : List Value) (d : ℕ) → f (place n k d) ≡ true → NotAfter q.key q.day k d)

same_day : (k l : List Value) (d e : ℕ) → NotAfter k d l e → NotAfter l e k d → (k ≡ l) × (d ≡ e)
same_day k l d e (inl a) (inl b) = absurd (less_not_back k l a b)
same_day k l d e (inl a) (inr b) = absurd (less_not_itself k l a (sym b.0))
same_day k l d e (inr a) (inl b) = absurd (less_not_itself l k b (sym a.0))
same_day k l d e (inr a) (inr b) = let x = a.1 in let y = b.1 in (a.0, omega arith)

at_place : (f : Place → Bool) (n : ℕ) (q : Place) → q.table ≡ n → f q ≡ true → f (place n q.key q.day) ≡ true
at_place f n q e h = subst (λ m. f (record { table = m; key = q.key; day = q.day }) ≡ true) e h

pub first_one : (f : Place → Bool) (n : ℕ) (a b : Option Place) → IsFirst f n a → IsFirst f n b → a ≡ b
first_one f n None None h g = refl
first_one f n None (Some b) h g = absurd (both (at_place f n b g.0 g.1) (h b.key b.day))
first_one f n (Some a) None h g = absurd (both (at_place f n a h.0 h.1) (g a.key a.day))
first_one f n (Some a) (Some b) h g =
    let same = same_day a.key b.key a.day b.day (h.2 b.key b.day (at_place f n b g.0 g.1)) (g.2 a.key a.day (at_place f n a h.0 h.1)) in
    let table : a.table ≡ b.table = h.0 ∙ sym g.0 in
    λ i. Some (record { table = table i; key = same.0 i; day = same.1 i })

-- ---- over keys and days

abbrev pub of_table : ℕ → ℕ → List (List Value) → List Place
of_table m n ks = flat_map (λ k. map (λ d. place n k d) (range_with_len 0 m)) ks

abbrev InKeys : (Place → Bool) → ℕ → ℕ → List (List Value) → Option Place → Type 0
InKeys f m n ks None = (k : List Value) (d : ℕ) → Has ks k → d < m → f (place n k d) ≡ false
InKeys f m n ks (Some q) = (q.table ≡ n) × (f q ≡ true) × ((k : List Value) (d : ℕ) → Has ks k → d < m → f (place n k d) ≡ true → NotAfter q.key q.day k d)

one_more_key : (f : Place → Bool) (m n : ℕ) (k : List Value) (ks : List (List Value)) → AllByRecursion (λ l. key_cmp k l ≡ Less) ks → (o : Option ℕ) → IsLeast (λ d. f (place n k d)) 0 m o → (later : Option Place) → InKeys f m n ks later
    → InKeys f m n (k ∷ ks) (option_or (option_map (λ d. place n k d) o) later)
one_more_key f m n k ks s None h None r = λ l d g a. elim g [ inl e ↦ subst (λ x. f (place n x d) ≡ false) (sym e) (h d (omega arith) a) | inr i ↦ r l d i a ]
one_more_key f m n k ks s None h (Some q) r = (r.0, r.1, (λ l d g a t. elim g [ inl e ↦ absurd (both (subst (λ x. f (place n x d) ≡ true) e t) (h d (omega arith) a)) | inr i ↦ r.2 l d i a t ]))
one_more_key f m n k ks s (Some x) h later r = (
  refl,
  h.2,
  (λ l d g a t. elim g [
    | inl e ↦ inr (sym e, elim (cases_lt d x) [ inl b ↦ absurd (both (subst (λ y. f (place n y d) ≡ true) e t) (h.3 d (omega arith) b)) | inr b ↦ b ])
    | inr i ↦ inl (all_has (λ y. key_cmp k y ≡ Less) ks l s i)
  ]),
)

pub keys_first : (f : Place → Bool) (m n : ℕ) (ks : List (List Value)) → IsStrictlySortedBy key_cmp ks → InKeys f m n ks (find f (of_table m n ks))
keys_first f m n [] s = λ k d h. absurd h
keys_first f m n (k ∷ ks) s =
    let g : ℕ → Place = λ d. place n k d in
    let least : IsLeast (λ d. f (place n k d)) 0 m (find (λ d. f (place n k d)) (range_with_len 0 m)) = subst (λ e. IsLeast (λ d. f (place n k d)) 0 e (find (λ d. f (place n k d)) (range_with_len 0 m))) (omega arith) (find_least (λ d. f (place n k d)) 0 m) in
    let more = one_more_key f m n k ks (sorted_head key_cmp k ks s) (find (λ d. f (place n k d)) (range_with_len 0 m)) least (find f (of_table m n ks)) (keys_first f m n ks (sorted_tail key_cmp k ks s)) in
    subst (λ o. InKeys f m n (k ∷ ks) o) (sym (find-append f (map g (range_with_len 0 m)) (of_table m n ks) ∙ ap (λ o. option_or o (find f (of_table m n ks))) (find-map f g (range_with_len 0 m)))) more

pub keys_all : (f : Place → Bool) (m n : ℕ) (ks : List (List Value)) → ((k : List Value) (d : ℕ) → f (place n k d) ≡ true → Has ks k × (d < m)) → (o : Option Place) → InKeys f m n ks o → IsFirst f n o
keys_all f m n ks all None h = λ k d. elim (cases_Bool (f (place n k d))) [ inl y ↦ let a = all k d y in absurd (both y (h k d a.0 a.1)) | inr x ↦ x ]
keys_all f m n ks all (Some q) h = (h.0, h.1, (λ k d t. let a = all k d t in h.2 k d a.0 a.1 t))

-- ---- over rows

abbrev pub InRows : (Place → Bool) → ℕ → List Row → Option Place → Type 0
InRows f n rows None = (r : Row) (d : ℕ) → Has rows r → r.period.start ≤ d → d < r.period.end → f (place n r.key d) ≡ false
InRows f n rows (Some q) = (q.table ≡ n) × (f q ≡ true) × ((r : Row) (d : ℕ) → Has rows r → r.period.start ≤ d → d < r.period.end → f (place n r.key d) ≡ true → NotAfter q.key q.day r.key d)

-- rows of one key have no day in common
abbrev pub AreParted : List Row → Type 0
AreParted rows = (r s : Row) → Has rows r → Has rows s → r.key ≡ s.key → r.period.start < s.period.start → r.period.end ≤ s.period.start

row_before : (r s : Row) (d e : ℕ) → place_cmp r s ≡ Less → (r.key ≡ s.key → r.period.start < s.period.start → r.period.end ≤ s.period.start) → d < r.period.end → s.period.start ≤ e → NotAfter r.key d s.key e
row_before r s d e h parted a b = elim (place_less r s h) [ inl l ↦ inl l | inr k ↦ let p = parted k.0 k.1 in inr (k.0, omega arith) ]

one_more_row : (f : Place → Bool) (n : ℕ) (r : Row) (rows : List Row) → AllByRecursion (λ s. place_cmp r s ≡ Less) rows → AreParted (r ∷ rows) → (o : Option ℕ) → IsLeast (λ d. f (place n r.key d)) r.period.start r.period.end o → (later : Option Place) → InRows f n rows later
    → InRows f n (r ∷ rows) (place_at n r o later)
one_more_row f n r rows s parted None h None i = λ x d g a b. elim g [
  | inl e ↦ subst (λ k. f (place n k d) ≡ false) (ap (λ y. y.key) (sym e)) (h d (subst (λ y. y.period.start ≤ d) e a) (subst (λ y. d < y.period.end) e b))
  | inr j ↦ i x d j a b
]
one_more_row f n r rows s parted None h (Some q) i = (
  i.0,
  i.1,
  (λ x d g a b t. elim g [
    | inl e ↦ absurd (both (subst (λ y. f (place n y.key d) ≡ true) e t) (h d (subst (λ y. y.period.start ≤ d) e a) (subst (λ y. d < y.period.end) e b)))
    | inr j ↦ i.2 x d j a b t
  ]),
)
one_more_row f n r rows s parted (Some y) h later i = (
  refl,
  h.2,
  (λ x d g a b t. elim g [
    | inl e ↦ inr (ap (λ z. z.key) (sym e), elim (cases_lt d y) [ inl l ↦ absurd (both (subst (λ z. f (place n z.key d) ≡ true) e t) (h.3 d (subst (λ z. z.period.start ≤ d) e a) l)) | inr l ↦ l ])
    | inr j ↦ row_before r x y d (all_has (λ z. place_cmp r z ≡ Less) rows x s j) (λ k l. parted r x (inl refl) (inr j) k l) h.1 a
  ]),
)

pub rows_first : (f : Place → Bool) (n : ℕ) (fs : List Reference) (all : Rows) (rows : List Row) → IsStrictlySortedBy place_cmp rows → AreParted rows → ((r : Row) → Has rows r → IsLeast (λ d. f (place n r.key d)) r.period.start r.period.end (missing fs all n r)) → InRows f n rows (missing_in_rows fs all n rows)
rows_first f n fs all [] s parted least = λ r d h. absurd h
rows_first f n fs all (r ∷ rows) s parted least =
    one_more_row f n r rows (sorted_head place_cmp r rows s) parted (missing fs all n r) (least r (inl refl)) (missing_in_rows fs all n rows)
    (rows_first f n fs all rows (sorted_tail place_cmp r rows s) (λ x y h g. parted x y (inr h) (inr g)) (λ x h. least x (inr h)))

pub rows_all : (f : Place → Bool) (n : ℕ) (rows : List Row) → ((k : List Value) (d : ℕ) → f (place n k d) ≡ true → (r : Row) × Has rows r × (r.key ≡ k) × (r.period.start ≤ d) × (d < r.period.end)) → (o : Option Place) → InRows f n rows o → IsFirst f n o
rows_all f n rows all None h = λ k d. elim (cases_Bool (f (place n k d))) [ inl y ↦ let a = all k d y in absurd (both y (subst (λ x. f (place n x d) ≡ false) a.2 (h a.0 d a.1 a.3 a.4))) | inr x ↦ x ]
rows_all f n rows all (Some q) h = (h.0, h.1, (λ k d t. let a = all k d t in subst (λ x. NotAfter q.key q.day x d) a.2 (h.2 a.0 d a.1 a.3 a.4 (subst (λ x. f (place n x d) ≡ true) (sym a.2) t))))

-- ---- the days of a key

starts_after : (k : List Value) (r : Row) (rows : List Row) → r.key ≡ k → AllByRecursion (λ s. place_cmp r s ≡ Less) rows → AllByRecursion (λ q. r.period.start ≤ q.start) (periods_of rows k)
starts_after k r [] e h = tt
starts_after k r (s ∷ rows) e h = elim (cases_Bool (same_key s.key k)) [
  | inl y ↦ rw y (elim (place_less r s h.0) [ inl l ↦ absurd (less_not_itself r.key s.key l (e ∙ sym (same_key-true s.key k y))) | inr l ↦ let a = l.1 in omega arith ], starts_after k r rows e h.1)
  | inr x ↦ rw x (starts_after k r rows e h.1)
]

pub periods_in_order : PeriodsInOrder
periods_in_order [] k s = λ i j d l h. absurd (omega arith)
periods_in_order (r ∷ rows) k s =
    let rest : StartInOrder (periods_of rows k) = periods_in_order rows k (sorted_tail place_cmp r rows s) in
    elim (cases_Bool (same_key r.key k)) [
      | inl y ↦ rw y (AllPairs-cons (λ p q. p.start ≤ q.start) r.period (periods_of rows k)
          (All-from_recursion (λ q. r.period.start ≤ q.start) (periods_of rows k) (starts_after k r rows (same_key-true r.key k y) (sorted_head place_cmp r rows s))) rest)
      | inr x ↦ rw x rest
    ]

pub filled_by : (rows : List Row) (table : Table) → Lists rows table → (k : List Value) (d : ℕ) → is_some (table.fact k d) ≡ list_any (λ p. inside p d) (periods_of rows k)
filled_by rows table l k d = same_test _ _
    (λ h.
    let c = some_fact (table.fact k d) h in
    let r = l.every k d c.0 c.1 in
    has_any (λ (p : Period). inside p d) (periods_of rows k) r.0.period (has_map (λ (x : Row). x.period) _ r.0 (has_filter (λ (x : Row). same_key x.key k) rows r.0 r.1 (ap (λ m. same_key m k) r.2 ∙ same_key-itself k))) (and_from _ _ (le-leb _ _ r.3) (lt-ltb _ _ r.4)))
    (λ h.
    let p = any_has (λ (p : Period). inside p d) (periods_of rows k) h in
    let m = map_has (λ (x : Row). x.period) _ p.0 p.1 in
    let r = filter_has (λ (x : Row). same_key x.key k) rows m.0 m.1 in
    let ps = and_parts _ _ (subst (λ (q : Period). inside q d ≡ true) m.2 p.2) in
    let key : m.0.key ≡ k = same_key-true m.0.key k r.1 in
    subst (λ x. is_some (table.fact x d) ≡ true) key (ap is_some ((l.each m.0 r.0).filled d (leb-true _ _ ps.0) (ltb-true _ _ ps.1))))

-- ---- orphans

module _ (language : Language) (all : Rows) (state : State) (l : AllListed all state) where
  -- the day of the row has no parent by the foreign key
  abbrev pub row_lacks : ℕ → Row → ℕ → Reference → Bool
  row_lacks n r d f = f.child == n && is_free (periods_of (all f.parent) (f.refers r.key r.values)) d

  lacks_is : (n : ℕ) (r : Row) (d : ℕ) (f : Reference) → (state n).fact r.key d ≡ Some (record { values = r.values; system_start = r.system_start }) → lacks state (place n r.key d) f ≡ row_lacks n r d f
  lacks_is n r d f h =
      ap (λ (o : Option Fact). elim o [ Some c ↦ f.child == n && not (is_some ((state f.parent).fact (f.refers r.key c.values) d)) | None ↦ false ]) h
      ∙ ap (λ b. f.child == n && not b) (filled_by (all f.parent) (state f.parent) (l f.parent) (f.refers r.key r.values) d)

  pub orphan_is : (n : ℕ) (r : Row) → IsRow (state n) r → (d : ℕ) → r.period.start ≤ d → d < r.period.end → list_any (row_lacks n r d) language.references ≡ is_orphan language state (place n r.key d)
  orphan_is n r row d a b = any_same (row_lacks n r d) (lacks state (place n r.key d)) language.references (λ f. sym (lacks_is n r d f (row.filled d a b)))

  lacks_some : (p : Place) (f : Reference) → lacks state p f ≡ true → is_some ((state p.table).fact p.key p.day) ≡ true
  lacks_some p f h = by ((state p.table).fact p.key p.day) h
    where
      by : (o : Option Fact) → elim o [ Some c ↦ f.child == p.table && not (is_some ((state f.parent).fact (f.refers p.key c.values) p.day)) | None ↦ false ] ≡ true → is_some o ≡ true
      by (Some c) g = refl
      by None g = g

  pub orphan_row : (n : ℕ) (k : List Value) (d : ℕ) → is_orphan language state (place n k d) ≡ true → (r : Row) × Has (all n) r × (r.key ≡ k) × (r.period.start ≤ d) × (d < r.period.end)
  orphan_row n k d h =
      let f = any_has (lacks state (place n k d)) language.references h in
      let c = some_fact ((state n).fact k d) (lacks_some (place n k d) f.0 f.2) in
      (l n).every k d c.0 c.1

  missing_by_least : (n : ℕ) (r : Row) (f : Reference) → r.period.start ≤ r.period.end → IsLeast (λ d. row_lacks n r d f) r.period.start r.period.end (missing_by all n r f)
  missing_by_least n r f le = by (f.child == n)
    where
      by : (b : Bool) → IsLeast (λ d. b && is_free (periods_of (all f.parent) (f.refers r.key r.values)) d) r.period.start r.period.end (cond b (find (is_free (periods_of (all f.parent) (f.refers r.key r.values))) (days_of r.period)) None)
      by true = find_day (is_free (periods_of (all f.parent) (f.refers r.key r.values))) r.period le
      by false = λ d a b. refl

  pub missing_least : (n : ℕ) (r : Row) (fs : List Reference) → r.period.start ≤ r.period.end → IsLeast (λ d. list_any (row_lacks n r d) fs) r.period.start r.period.end (missing fs all n r)
  missing_least n r [] le = λ d a b. refl
  missing_least n r (f ∷ fs) le = least_or (λ d. row_lacks n r d f) (λ d. list_any (row_lacks n r d) fs) r.period.start r.period.end (missing_by all n r f) (missing fs all n r) (missing_by_least n r f le) (missing_least n r fs le)

  pub parted : (n : ℕ) → AreParted (all n)
  parted n r s h g e lt = elim (cases_lt s.period.start r.period.end) [
    | inl m ↦
        let some = ((l n).each s g).some in
        let same = one_row ((l n).each r h) ((l n).each s g) s.key s.period.start (record { key = e; from = omega arith; before = m }) (record { key = refl; from = omega arith; before = some }) in
        let start : r.period.start ≡ s.period.start = ap (λ x. x.period.start) same in
        absurd (omega arith)
    | inr m ↦ m
  ]

  module _ (sorted : AllInOrder all) where
    table_orphan : (n : ℕ) → find (is_orphan language state) (of_table days n (state n).keys) ≡ missing_in_rows language.references all n (all n)
    table_orphan n =
        let f : Place → Bool = is_orphan language state in
        first_one f n (find f (of_table days n (state n).keys)) (missing_in_rows language.references all n (all n))
        (keys_all f days n (state n).keys (λ k d h. let r = orphan_row n k d h in let a = (l n).within r.0 r.1 in let b = r.4 in (subst (λ x. Has (state n).keys x) r.2 ((l n).keyed r.0 r.1), omega arith)) _ (keys_first f days n (state n).keys (l n).keys))
        (rows_all f n (all n) (orphan_row n) _ (rows_first f n language.references all (all n) (sorted n) (parted n) (λ r h.
        least_same (λ d. list_any (row_lacks n r d) language.references) (λ d. f (place n r.key d)) r.period.start r.period.end (missing language.references all n r) (orphan_is n r ((l n).each r h)) (missing_least n r language.references (let s = ((l n).each r h).some in omega arith)))))

    tables_orphan : (ns : List ℕ) → find (is_orphan language state) (flat_map (λ n. of_table days n (state n).keys) ns) ≡ missing_in_tables language.references all ns
    tables_orphan [] = refl
    tables_orphan (n ∷ ns) =
        find-append (is_orphan language state) (of_table days n (state n).keys) (flat_map (λ n. of_table days n (state n).keys) ns)
        ∙ ap (λ o. option_or o (find (is_orphan language state) (flat_map (λ n. of_table days n (state n).keys) ns))) (table_orphan n)
        ∙ ap (option_or (missing_in_rows language.references all n (all n))) (tables_orphan ns)

    pub orphan_on_rows : rows_orphan language all ≡ first_orphan language state
    unfolding rows_orphan first_orphan
    orphan_on_rows = sym (tables_orphan (range_with_len 0 language.tables))
