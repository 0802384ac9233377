-- References after an action, by what it touched alone.
use Rattle.std.specs.Result.{result_unwrap_or}
use Rattle.std.proofs.Common.{◌≡◌, ℕ, ◌+◌, ◌-◌, ◌<◌, ◌≤◌, ◌⊎◌, inl, inr, Bool, true, false, cond, not, filter, ◌&&◌, ◌==◌, List, [], ◌∷◌, ◌++◌, map, flat_map, Option, Some, None, is_some, Result, Ok, Err, refl, sym, ap, ◌∙◌, subst, arith, Ordering}
use Rattle.std.specs.Prelude.{find}
use Rattle.std.specs.Option.{option_or, option_map_or}
use Rattle.std.specs.List.{list_any, range_with_len, AllByRecursion}
use Rattle.std.specs.List.Sorted.{IsStrictlySortedBy}
use Rattle.std.specs.declared.cmp.Ordering.TheVariants.{Less, Equal, Greater}
use Rattle.std.specs.Ordering.{ordering_then, ordering_reverse, nat_cmp}
use Rattle.std.specs.Cmp.{nat_cmp_is}
use Rattle.std.proofs.lemmas.List.Folds.{find-append}
use Rattle.std.proofs.lemmas.Bool.{cases_Bool, cases_lt, cases_order, and_parts, and_from, eqb-true, eq-eqb, not-true, not_from_false}
use Rattle.fault.specs.declared.refusal.Refusal.{Refusal}
use Rattle.model.specs.declared.value.Value.{Value}
use Rattle.model.specs.declared.entry.Entry.{Entry}
use Rattle.model.specs.declared.entry.Request.{Request}
use Rattle.model.specs.Values.{key_cmp, same_key}
use Rattle.model.specs.Tables.{days, Period, inside, Fact, Row, empty_table}
use Rattle.model.specs.Periods.{is_free}
use Rattle.model.specs.Statements.{days_of}
use Rattle.model.specs.Transactions.{State, Language, Reference, Place, lacks, is_orphan, first_orphan, unless_orphan, and_then, transacted, run_statements, executed_text}
use Rattle.model.specs.Logs.{is_first, state_after}
use Rattle.rowlaws.specs.Rows.{Has}
use Rattle.rowlaws.specs.Statements.{Rows, AllListed}
use Rattle.rowlaws.specs.Covering.{place_cmp, AllInOrder, periods_of, missing, place_at, missing_in_rows, ReferencesHold, rows_orphan}
use Rattle.rowlaws.specs.Transactions.{all_in_order, rows_transacted, rows_unless_orphan}
use Rattle.rowlaws.specs.Losing.{is_lost, has_lost_day, losing_keys, lost_days}
use Rattle.rowlaws.specs.Whole.{AllTouched, AllTouchedAmong, OneOrphan, NoOrphanThen, NoOrphanAfter, NoneAccepted, WholeItself, WholeThen, WholeAmong}
use Rattle.rowlaws.specs.Indexes.{rows_of_key, KeysPicked, Index, IsIndex, keys_by, keys_to_check, IndexPicks, IndexGrows}
use Rattle.rowlaws.specs.Suspects.{rows_losing, suspects_by, suspects, IsPicked, by_order, day_cmp, earlier, first_among, first_in_tables, first_in_order, picked_orphan, ordered_orphan, KeptChild, OrphanSuspect, PickedOrphan, OrderedOrphan, TouchedOrphan, TransactionTouched}
use Rattle.rowlaws.proofs.Orders.{then_less, then_equal, nat_less, nat_equal}
use Rattle.rowlaws.proofs.Keys.{key_total, key_same, same_key-true, same_key-itself}
use Rattle.rowlaws.proofs.Members.{has_left, has_right, has_cases, has_map, has_filter, filter_has, has_flat, flat_has, has_range, range_has}
use Rattle.rowlaws.proofs.RowFacts.{both}
use Rattle.rowlaws.proofs.Listed.{row_listed, lists_none}
use Rattle.rowlaws.proofs.Anys.{any_has, has_any}
use Rattle.rowlaws.proofs.Sorted.{less_has}
use Rattle.rowlaws.proofs.Least.{IsLeast, least_same, find_day}
use Rattle.rowlaws.proofs.Orphaned.{place, NotAfter, first_one, of_table, keys_first, keys_all, InRows, AreParted, rows_first, rows_all, parted, orphan_is, orphan_row, missing_least}
use Rattle.rowlaws.proofs.Referring.{hold_is}
use Rattle.rowlaws.proofs.Losing.{is_inside, uncovered_by, now_free, among_with, touched_among, untouched_among, among_both, then_ok}
use Rattle.rowlaws.proofs.Transacted.{same_orphan}

has_all : {A : Type 0} (P : A → Type 0) (xs : List A) → ((x : A) → Has xs x → P x) → AllByRecursion P xs
has_all P [] f = tt
has_all P (x ∷ xs) f = (f x (inl refl), has_all P xs (λ y h. f y (inr h)))

-- ---- the earlier of two places

not_after_then : (k l m : List Value) (d e f : ℕ) → NotAfter k d l e → NotAfter l e m f → NotAfter k d m f
not_after_then k l m d e f (inl a) (inl b) = inl (key_total.trans k l m a b)
not_after_then k l m d e f (inl a) (inr b) = inl (subst (λ x. key_cmp k x ≡ Less) b.0 a)
not_after_then k l m d e f (inr a) (inl b) = inl (subst (λ x. key_cmp x m ≡ Less) (sym a.0) b)
not_after_then k l m d e f (inr a) (inr b) = let x = a.1 in let y = b.1 in inr (a.0 ∙ b.0, omega arith)

then_greater : (a b : Ordering) → ordering_then a b ≡ Greater → (a ≡ Greater) ⊎ ((a ≡ Equal) × (b ≡ Greater))
then_greater Less b h = absurd (cc)
then_greater Equal b h = inr (refl, h)
then_greater Greater b h = inl refl

nat_greater : (a b : ℕ) → nat_cmp a b ≡ Greater → b < a
nat_greater a b h = elim (cases_order a b) [
  | inl e ↦ let q : Greater ≡ Equal = sym h ∙ sym (nat_cmp_is a b Equal e) in absurd (cc)
  | inr o ↦ elim o [ inl l ↦ let q : Greater ≡ Less = sym h ∙ sym (nat_cmp_is a b Less l) in absurd (cc) | inr g ↦ g ]
]

not_after_less : (p q : Place) → day_cmp p q ≡ Less → NotAfter p.key p.day q.key q.day
not_after_less p q h = elim (then_less (key_cmp p.key q.key) (nat_cmp p.day q.day) h) [
  | inl a ↦ inl a
  | inr b ↦ let l = nat_less p.day q.day b.1 in inr (key_same p.key q.key b.0, omega arith)
]

not_after_equal : (p q : Place) → day_cmp p q ≡ Equal → NotAfter p.key p.day q.key q.day
not_after_equal p q h = let e = then_equal (key_cmp p.key q.key) (nat_cmp p.day q.day) h in let d = nat_equal p.day q.day e.1 in inr (key_same p.key q.key e.0, omega arith)

not_after_greater : (p q : Place) → day_cmp p q ≡ Greater → NotAfter q.key q.day p.key p.day
not_after_greater p q h = elim (then_greater (key_cmp p.key q.key) (nat_cmp p.day q.day) h) [
  | inl a ↦ inl (key_total.antisymm q.key p.key ∙ ap ordering_reverse a)
  | inr b ↦ let l = nat_greater p.day q.day b.1 in inr (sym (key_same p.key q.key b.0), omega arith)
]

-- ---- the first among some rows

-- the day of the row is the first, and those of the others are not before it
abbrev NotBefore : (Place → Bool) → ℕ → List Row → Place → Type 0
NotBefore f n rows q = (r : Row) (d : ℕ) → Has rows r → r.period.start ≤ d → d < r.period.end → f (place n r.key d) ≡ true → NotAfter q.key q.day r.key d

sooner : (f : Place → Bool) (n : ℕ) (rows : List Row) (p q : Place) → NotAfter p.key p.day q.key q.day → NotBefore f n rows q → NotBefore f n rows p
sooner f n rows p q a h = λ r d g x y t. not_after_then p.key q.key r.key p.day q.day d a (h r d g x y t)

join_rows : (f : Place → Bool) (n : ℕ) (r : Row) (rows : List Row) (q : Place) → NotBefore f n (r ∷ []) q → NotBefore f n rows q → NotBefore f n (r ∷ rows) q
join_rows f n r rows q h i = λ x d g a b t. elim g [ inl e ↦ h x d (inl e) a b t | inr j ↦ i x d j a b t ]

-- one row
one_row_first : (f : Place → Bool) (n : ℕ) (r : Row) (o : Option ℕ) → IsLeast (λ d. f (place n r.key d)) r.period.start r.period.end o → InRows f n (r ∷ []) (place_at n r o None)
one_row_first f n r None h = λ x d g a b. elim g [
  | inl e ↦ subst (λ k. f (place n k d) ≡ false) (ap (λ y. y.key) (sym e)) (h d (subst (λ y. y.period.start ≤ d) e a) (subst (λ y. d < y.period.end) e b))
  | inr j ↦ absurd j
]
one_row_first f n r (Some y) h = (
  refl,
  h.2,
  (λ x d g a b t. elim g [
    | inl e ↦ inr (ap (λ z. z.key) (sym e), elim (cases_lt d y) [ inl l ↦ absurd (both (subst (λ z. f (place n z.key d) ≡ true) e t) (h.3 d (subst (λ z. z.period.start ≤ d) e a) l)) | inr l ↦ l ])
    | inr j ↦ absurd j
  ]),
)

-- and more
earlier_first : (f : Place → Bool) (n : ℕ) (r : Row) (rows : List Row) (a b : Option Place) → InRows f n (r ∷ []) a → InRows f n rows b → InRows f n (r ∷ rows) (earlier a b)
earlier_first f n r rows None None h i = λ x d g a b. elim g [ inl e ↦ h x d (inl e) a b | inr j ↦ i x d j a b ]
earlier_first f n r rows None (Some q) h i = (i.0, i.1, join_rows f n r rows q (λ x d g a b t. absurd (both t (h x d g a b))) i.2)
earlier_first f n r rows (Some p) None h i = (h.0, h.1, join_rows f n r rows p h.2 (λ x d g a b t. absurd (both t (i x d g a b))))
earlier_first f n r rows (Some p) (Some q) h i = by (day_cmp p q) (not_after_less p q) (not_after_equal p q) (not_after_greater p q)
  where
    by : (o : Ordering) → (o ≡ Less → NotAfter p.key p.day q.key q.day) → (o ≡ Equal → NotAfter p.key p.day q.key q.day) → (o ≡ Greater → NotAfter q.key q.day p.key p.day) → InRows f n (r ∷ rows) (Some (by_order o p q))
    by Less l e g = (h.0, h.1, join_rows f n r rows p h.2 (sooner f n rows p q (l refl) i.2))
    by Equal l e g = (h.0, h.1, join_rows f n r rows p h.2 (sooner f n rows p q (e refl) i.2))
    by Greater l e g = (i.0, i.1, join_rows f n r rows q (sooner f n (r ∷ []) q p (g refl) h.2) i.2)

among_first : (f : Place → Bool) (n : ℕ) (fs : List Reference) (all : Rows) (rows : List Row) → ((r : Row) → Has rows r → IsLeast (λ d. f (place n r.key d)) r.period.start r.period.end (missing fs all n r)) → InRows f n rows (first_among fs all n rows)
among_first f n fs all [] least = λ r d h. absurd h
among_first f n fs all (r ∷ rows) least =
    earlier_first f n r rows (place_at n r (missing fs all n r) None) (first_among fs all n rows)
    (one_row_first f n r (missing fs all n r) (least r (inl refl))) (among_first f n fs all rows (λ x h. least x (inr h)))

-- ---- what can have become an orphan

none_before : (language : Language) (before : Rows) (old : State) → AllListed before old → first_orphan language old ≡ None → ReferencesHold language old
none_before language before old l h = (hold_is language before old l).0 h

pub kept_child : KeptChild
kept_child language before old new f r d l clean has lt row a b kept =
    let held = none_before language before old l clean f has lt r.key d _ (row.filled d a b) in
    elim (cases_Bool (is_some ((new f.parent).fact (f.refers r.key r.values) d))) [
      | inl y ↦ y
      | inr n ↦ absurd (kept (and_from _ _ held (not_from_false _ n)))
    ]

lack_parts : (state : State) (f : Reference) (p : Place) (c : Fact) → (state p.table).fact p.key p.day ≡ Some c → lacks state p f ≡ true → (f.child ≡ p.table) × (is_some ((state f.parent).fact (f.refers p.key c.values) p.day) ≡ false)
lack_parts state f p c e h =
    let t : (f.child == p.table && not (is_some ((state f.parent).fact (f.refers p.key c.values) p.day))) ≡ true =
    sym (ap (λ (o : Option Fact). elim o [ Some c ↦ f.child == p.table && not (is_some ((state f.parent).fact (f.refers p.key c.values) p.day)) | None ↦ false ]) e) ∙ h in
    let q = and_parts _ _ t in
    (eqb-true f.child p.table q.0, not-true _ q.1)

-- a row that refers to the key of a row that went, with a day of both that the key has no longer
has_day : (p : Period) (d : ℕ) → p.start ≤ d → d < p.end → Has (days_of p) d
has_day p d a b = has_range p.start (p.end - p.start) d a (omega arith)

losing_row : (f : Reference) (rows more : List Row) (q r : Row) (d : ℕ) → Has rows r → q.key ≡ f.refers r.key r.values → q.period.start ≤ d → d < q.period.end → r.period.start ≤ d → d < r.period.end
    → is_free (periods_of more (f.refers r.key r.values)) d ≡ true → Has (rows_losing f rows more q) r
losing_row f rows more q r d h key a b c e free =
    let k = f.refers r.key r.values in
    let lost : Has (lost_days more q) d = has_filter (is_free (periods_of more q.key)) (days_of q.period) d (has_day q.period d a b) (subst (λ (x : List Value). is_free (periods_of more x) d ≡ true) (sym key) free) in
    has_filter (λ (x : Row). same_key (f.refers x.key x.values) q.key && list_any (inside x.period) (lost_days more q)) rows r h
    (and_from _ _ (subst (λ (x : List Value). same_key k x ≡ true) (sym key) (same_key-itself k)) (has_any (inside r.period) (lost_days more q) d lost (is_inside r.period d c e)))

-- what it refers to, and that a day was lost
losing_key : (f : Reference) (rows more removed : List Row) (q r : Row) → Has removed q → Has (rows_losing f rows more q) r → Has rows r × (f.refers r.key r.values ≡ q.key) × Has (losing_keys removed more) q.key
losing_key f rows more removed q r has h =
    let x = filter_has (λ (x : Row). same_key (f.refers x.key x.values) q.key && list_any (inside x.period) (lost_days more q)) rows r h in
    let parts = and_parts (same_key (f.refers r.key r.values) q.key) (list_any (inside r.period) (lost_days more q)) x.1 in
    let d = any_has (inside r.period) (lost_days more q) parts.1 in
    let day = filter_has (is_free (periods_of more q.key)) (days_of q.period) d.0 d.1 in
    let range = range_has q.period.start (q.period.end - q.period.start) d.0 day.0 in
    let a : q.period.start ≤ d.0 = range.0 in
    let b : d.0 < q.period.start + (q.period.end - q.period.start) = range.1 in
    let free = is_free (periods_of more q.key) in
    let before : d.0 < q.period.end = omega (arith, a, b) in
    let lost : has_lost_day more q ≡ true = uncovered_by free q.period d.0 a before day.1 (find free (days_of q.period)) (find_day free q.period (omega (arith, a, before))) in
    (x.0, same_key-true (f.refers r.key r.values) q.key parts.0, has_map (λ (y : Row). y.key) (filter (has_lost_day more) removed) q (has_filter (has_lost_day more) removed q has lost))

module _ (language : Language) (before all removed added : Rows) (old new : State) (l : AllListed before old) (m : AllListed all new) (touch : AllTouchedAmong old new removed added) (clean : first_orphan language old ≡ None) where
  suspect_by : (n : ℕ) (f : Reference) (r : Row) → f.child ≡ n → Has (added n ++ flat_map (rows_losing f (all n) (all f.parent)) (removed f.parent)) r → Has (suspects_by all removed added n f) r
  suspect_by n f r e h = subst (λ b. Has (cond b (added n ++ flat_map (rows_losing f (all n) (all f.parent)) (removed f.parent)) []) r) (sym (eq-eqb f.child n e)) h

  -- a row that has a day that a key it refers to lost
  suspect_lost : (n : ℕ) (f : Reference) (r : Row) (d : ℕ) → f.child ≡ n → Has (all n) r → r.period.start ≤ d → d < r.period.end → is_lost (old f.parent) (new f.parent) (f.refers r.key r.values) d ≡ true → Has (suspects_by all removed added n f) r
  suspect_lost n f r d e h a b lost =
      let p = f.parent in
      let k = f.refers r.key r.values in
      let q = among_with (before p) (all p) (old p) (new p) (removed p) (added p) (l p) (m p) (touch p) k d lost in
      let free = now_free (before p) (all p) (old p) (new p) (removed p) (added p) (l p) (m p) (touch p) k d lost in
      suspect_by n f r e (has_right (added n) (flat_map (rows_losing f (all n) (all p)) (removed p)) r (has_flat (rows_losing f (all n) (all p)) (removed p) q.0 r q.1 (losing_row f (all n) (all p) q.0 r d h q.2 q.3 q.4 a b free)))

  suspect_for : (n : ℕ) → n < language.tables → (r : Row) (d : ℕ) (f : Reference) → Has (all n) r → r.period.start ≤ d → d < r.period.end → Has language.references f → lacks new (place n r.key d) f ≡ true → Has (suspects_by all removed added n f) r
  suspect_for n lt r d f h a b has lack =
      let row = (m n).each r h in
      let parts = lack_parts new f (place n r.key d) _ (row.filled d a b) lack in
      let child : f.child ≡ n = parts.0 in
      elim ((touch n).comes r row) [
        | inr c ↦ suspect_by n f r child (has_left (added n) (flat_map (rows_losing f (all n) (all f.parent)) (removed f.parent)) r c)
        | inl o ↦
            let held = none_before language before old l clean f has (subst (λ x. x < language.tables) (sym child) lt) r.key d _ (subst (λ x. (old x).fact r.key d ≡ Some (record { values = r.values; system_start = r.system_start })) (sym child) (o.filled d a b)) in
            suspect_lost n f r d child h a b (and_from _ _ held (not_from_false _ parts.1))
      ]

  pub suspect : (n : ℕ) → n < language.tables → (k : List Value) (d : ℕ) → is_orphan language new (place n k d) ≡ true
      → (r : Row) × Has (suspects language.references all removed added n) r × Has (all n) r × (r.key ≡ k) × (r.period.start ≤ d) × (d < r.period.end)
  suspect n lt k d h =
      let f = any_has (lacks new (place n k d)) language.references h in
      let r = orphan_row language all new m n k d h in
      let lack : lacks new (place n r.0.key d) f.0 ≡ true = subst (λ x. lacks new (place n x d) f.0 ≡ true) (sym r.2) f.2 in
      (r.0, has_flat (suspects_by all removed added n) language.references f.0 r.0 f.1 (suspect_for n lt r.0 d f.0 r.1 r.3 r.4 f.1 lack), r.1, r.2, r.3, r.4)

  -- ---- the search

  module _ (picked : Rows) (is : IsPicked language.references all removed added picked) where
    -- a search that finds the first of the picked rows of a table finds the first of the table
    first_of_table : (n : ℕ) → n < language.tables → (o : Option Place) → InRows (is_orphan language new) n (picked n) o → find (is_orphan language new) (of_table days n (new n).keys) ≡ o
    first_of_table n lt o found =
        let f : Place → Bool = is_orphan language new in
        first_one f n (find f (of_table days n (new n).keys)) o
        (keys_all f days n (new n).keys (λ k d h. let r = orphan_row language all new m n k d h in let a = (m n).within r.0 r.1 in let b = r.4 in (subst (λ x. Has (new n).keys x) r.2 ((m n).keyed r.0 r.1), omega arith)) _ (keys_first f days n (new n).keys (m n).keys))
        (rows_all f n (picked n) (λ k d h. let r = suspect n lt k d h in (r.0, is.each n r.0 r.1 r.2, r.3, r.4, r.5)) o found)

    picked_least : (n : ℕ) (r : Row) → Has (picked n) r → IsLeast (λ d. is_orphan language new (place n r.key d)) r.period.start r.period.end (missing language.references all n r)
    picked_least n r h =
        let row = (m n).each r (is.listed n r h) in
        least_same _ (λ d. is_orphan language new (place n r.key d)) r.period.start r.period.end (missing language.references all n r) (orphan_is language all new m n r row) (missing_least language all new m n r language.references (let s = row.some in omega arith))

    picked_tables : (ns : List ℕ) → ((n : ℕ) → Has ns n → n < language.tables) → find (is_orphan language new) (flat_map (λ n. of_table days n (new n).keys) ns) ≡ first_in_tables language.references all picked ns
    picked_tables [] lt = refl
    picked_tables (n ∷ ns) lt =
        find-append (is_orphan language new) (of_table days n (new n).keys) (flat_map (λ n. of_table days n (new n).keys) ns)
        ∙ ap (λ o. option_or o (find (is_orphan language new) (flat_map (λ n. of_table days n (new n).keys) ns))) (first_of_table n (lt n (inl refl)) (first_among language.references all n (picked n)) (among_first (is_orphan language new) n language.references all (picked n) (picked_least n)))
        ∙ ap (option_or (first_among language.references all n (picked n))) (picked_tables ns (λ x h. lt x (inr h)))

    pub first_picked : picked_orphan language all picked ≡ first_orphan language new
    unfolding picked_orphan first_orphan
    first_picked = sym (picked_tables (range_with_len 0 language.tables) (λ n h. let r = (range_has 0 language.tables n h).1 in omega arith))

    -- ---- in order

    module _ (sorted : AllInOrder picked) where
      picked_parted : (n : ℕ) → AreParted (picked n)
      picked_parted n r s h g e lt = parted language all new m n r s (is.listed n r h) (is.listed n s g) e lt

      ordered_tables : (ns : List ℕ) → ((n : ℕ) → Has ns n → n < language.tables) → find (is_orphan language new) (flat_map (λ n. of_table days n (new n).keys) ns) ≡ first_in_order language.references all picked ns
      ordered_tables [] lt = refl
      ordered_tables (n ∷ ns) lt =
          find-append (is_orphan language new) (of_table days n (new n).keys) (flat_map (λ n. of_table days n (new n).keys) ns)
          ∙ ap (λ o. option_or o (find (is_orphan language new) (flat_map (λ n. of_table days n (new n).keys) ns))) (first_of_table n (lt n (inl refl)) (missing_in_rows language.references all n (picked n)) (rows_first (is_orphan language new) n language.references all (picked n) (sorted n) (picked_parted n) (picked_least n)))
          ∙ ap (option_or (missing_in_rows language.references all n (picked n))) (ordered_tables ns (λ x h. lt x (inr h)))

      pub first_ordered : ordered_orphan language all picked ≡ first_orphan language new
      unfolding ordered_orphan first_orphan
      first_ordered = sym (ordered_tables (range_with_len 0 language.tables) (λ n h. let r = (range_has 0 language.tables n h).1 in omega arith))

pub orphan_suspect : OrphanSuspect
orphan_suspect language before all removed added old new p l m touch clean lt h = suspect language before all removed added old new l m touch clean p.table lt p.key p.day h

pub one_orphan : OneOrphan
one_orphan language all state next l m = sym (same_orphan language all state l) ∙ same_orphan language all next m

pub picked_orphan_is : PickedOrphan
picked_orphan_is language all removed added picked state c l is = first_picked language c.2 all removed added c.0 c.1 c.3 c.4 c.5 c.6 picked is ∙ one_orphan language all c.1 state c.4 l

pub ordered_orphan_is : OrderedOrphan
ordered_orphan_is language all removed added picked state c l is sorted = first_ordered language c.2 all removed added c.0 c.1 c.3 c.4 c.5 c.6 picked is sorted ∙ one_orphan language all c.1 state c.4 l

-- each suspect is a row of its table, where no row is told of that came and went again
suspect_listed : (fs : List Reference) (all removed added : Rows) (old new : State) → AllListed all new → AllTouched old new removed added → (n : ℕ) (r : Row) → Has (suspects fs all removed added n) r → Has (all n) r
suspect_listed fs all removed added old new m touch n r h =
    let f = flat_has (suspects_by all removed added n) fs r h in
    by f.0 (f.0.child == n) f.2
  where
    by : (f : Reference) (b : Bool) → Has (cond b (added n ++ flat_map (rows_losing f (all n) (all f.parent)) (removed f.parent)) []) r → Has (all n) r
    by f true g = elim (has_cases (added n) (flat_map (rows_losing f (all n) (all f.parent)) (removed f.parent)) r g) [
      | inl c ↦ row_listed (all n) (new n) r (m n) ((touch n).came r c).0
      | inr k ↦ let x = flat_has (rows_losing f (all n) (all f.parent)) (removed f.parent) r k in (losing_key f (all n) (all f.parent) (removed f.parent) x.0 r x.1 x.2).0
    ]
    by f false g = absurd g

pub touched_orphan_is : TouchedOrphan
touched_orphan_is language before all removed added old new l m touch clean =
    first_picked language before all removed added old new l m (λ n. touched_among (old n) (new n) (removed n) (added n) (touch n)) clean (suspects language.references all removed added)
    (record { listed = suspect_listed language.references all removed added old new m touch; each = λ n r h g. h })

-- ---- an index

-- a suspect's key is one to check
suspect_key : (fs : List Reference) (all removed added : Rows) (index : Index) → IsIndex fs all index → (n : ℕ) (r : Row) → Has (suspects fs all removed added n) r → Has (keys_to_check fs all removed added index n) r.key
suspect_key fs all removed added index is n r h =
    let f = flat_has (suspects_by all removed added n) fs r h in
    has_flat (keys_by all removed added index n) fs f.0 r.key f.1 (by f.0 f.1 (cases_Bool (f.0.child == n)) f.2)
  where
    keyed : (f : Reference) → Has fs f → f.child ≡ n → Has (added n ++ flat_map (rows_losing f (all n) (all f.parent)) (removed f.parent)) r → Has (map (λ (x : Row). x.key) (added n) ++ flat_map (index n f.parent) (losing_keys (removed f.parent) (all f.parent))) r.key
    keyed f has e g = elim (has_cases (added n) (flat_map (rows_losing f (all n) (all f.parent)) (removed f.parent)) r g) [
      | inl c ↦ has_left (map (λ (x : Row). x.key) (added n)) (flat_map (index n f.parent) (losing_keys (removed f.parent) (all f.parent))) r.key (has_map (λ (x : Row). x.key) (added n) r c)
      | inr k ↦
          let x = flat_has (rows_losing f (all n) (all f.parent)) (removed f.parent) r k in
          let y = losing_key f (all n) (all f.parent) (removed f.parent) x.0 r x.1 x.2 in
          let same : f.refers r.key r.values ≡ x.0.key = y.1 in
          let there : Has (index n f.parent (f.refers r.key r.values)) r.key = subst (λ c. Has (index c f.parent (f.refers r.key r.values)) r.key) e (is f has r (subst (λ c. Has (all c) r) (sym e) y.0)) in
          has_right (map (λ (x : Row). x.key) (added n)) (flat_map (index n f.parent) (losing_keys (removed f.parent) (all f.parent))) r.key
          (has_flat (index n f.parent) (losing_keys (removed f.parent) (all f.parent)) x.0.key r.key y.2 (subst (λ k. Has (index n f.parent k) r.key) same there))
    ]

    by : (f : Reference) → Has fs f → ((f.child == n) ≡ true) ⊎ ((f.child == n) ≡ false) → Has (suspects_by all removed added n f) r → Has (keys_by all removed added index n f) r.key
    by f has (inl y) g =
        subst (λ b. Has (cond b (map (λ (x : Row). x.key) (added n) ++ flat_map (index n f.parent) (losing_keys (removed f.parent) (all f.parent))) []) r.key) (sym y)
        (keyed f has (eqb-true f.child n y) (subst (λ b. Has (cond b (added n ++ flat_map (rows_losing f (all n) (all f.parent)) (removed f.parent)) []) r) y g))
    by f has (inr x) g = absurd (subst (λ b. Has (cond b (added n ++ flat_map (rows_losing f (all n) (all f.parent)) (removed f.parent)) []) r) x g)

pub index_picks : IndexPicks
index_picks fs all removed added picked index is keyed = record {
  listed = keyed.listed;
  each = λ n r h g. keyed.each n r g (suspect_key fs all removed added index is n r h);
}

pub index_grows : IndexGrows
index_grows fs before all added index more is from grows has_added f has r h = elim (from f.child r h) [
  | inl b ↦ grows f.child f.parent (f.refers r.key r.values) r.key (is f has r b)
  | inr c ↦ has_added f has r c
]

-- ---- keys in order

sorted_append : {A : Type 0} (c : A → A → Ordering) (xs ys : List A) → IsStrictlySortedBy c xs → IsStrictlySortedBy c ys → ((x y : A) → Has xs x → Has ys y → c x y ≡ Less) → IsStrictlySortedBy c (xs ++ ys)
unfolding IsStrictlySortedBy
sorted_append c [] ys s t f = t
sorted_append c (x ∷ xs) ys s t f = (
  has_all (λ y. c x y ≡ Less) (xs ++ ys) (λ y h. elim (has_cases xs ys y h) [ inl g ↦ less_has c x xs y s.0 g | inr g ↦ f x y (inl refl) g ]),
  sorted_append c xs ys s.1 t (λ z y h g. f z y (inr h) g),
)

sorted_filter : {A : Type 0} (c : A → A → Ordering) (p : A → Bool) (xs : List A) → IsStrictlySortedBy c xs → IsStrictlySortedBy c (filter p xs)
unfolding IsStrictlySortedBy
sorted_filter c p [] s = s
sorted_filter c p (x ∷ xs) s = by (p x) (sorted_filter c p xs s.1)
  where
    by : (b : Bool) → IsStrictlySortedBy c (filter p xs) → IsStrictlySortedBy c (cond b (x ∷ filter p xs) (filter p xs))
    by true more = (has_all (λ y. c x y ≡ Less) (filter p xs) (λ y h. less_has c x xs y s.0 (filter_has p xs y h).0), more)
    by false more = more

key_place : (r s : Row) → key_cmp r.key s.key ≡ Less → place_cmp r s ≡ Less
key_place r s h = ap (λ o. ordering_then o (nat_cmp r.period.start s.period.start)) h

sorted_keys : (rows : List Row) (ks : List (List Value)) → IsStrictlySortedBy place_cmp rows → IsStrictlySortedBy key_cmp ks → IsStrictlySortedBy place_cmp (flat_map (rows_of_key rows) ks)
unfolding IsStrictlySortedBy
sorted_keys rows [] s t = tt
sorted_keys rows (k ∷ ks) s t =
    sorted_append place_cmp (rows_of_key rows k) (flat_map (rows_of_key rows) ks) (sorted_filter place_cmp (λ (r : Row). same_key r.key k) rows s) (sorted_keys rows ks s t.1)
    (λ x y h g.
    let m = flat_has (rows_of_key rows) ks y g in
    let first : x.key ≡ k = same_key-true x.key k (filter_has (λ (r : Row). same_key r.key k) rows x h).1 in
    let second : y.key ≡ m.0 = same_key-true y.key m.0 (filter_has (λ (r : Row). same_key r.key m.0) rows y m.2).1 in
    let less : key_cmp k m.0 ≡ Less = less_has key_cmp k ks m.0 t.0 m.1 in
    key_place x y (ap (λ z. key_cmp z y.key) first ∙ ap (key_cmp k) second ∙ less))

pub keys_picked : KeysPicked
keys_picked all wanted keys sorted ordered among = (
  record {
    listed = λ n r h. let m = flat_has (rows_of_key (all n)) (keys n) r h in (filter_has (λ (x : Row). same_key x.key m.0) (all n) r m.2).0;
    each = λ n r h g. has_flat (rows_of_key (all n)) (keys n) r.key r (among n r.key g) (has_filter (λ (x : Row). same_key x.key r.key) (all n) r h (same_key-itself r.key));
  },
  (λ n. sorted_keys (all n) (keys n) (sorted n) (ordered n)),
)

-- ---- transactions and logs

accepted : (language : Language) (state next : State) (o : Option Place) → unless_orphan language state o ≡ Ok next → (o ≡ None) × (state ≡ next)
accepted language state next None h = (refl, cc)
accepted language state next (Some p) h = absurd (cc)

pub none_accepted : NoneAccepted
none_accepted language state next h = (accepted language state next (first_orphan language state) h).0

pub whole_itself : WholeItself
whole_itself language all state l clean = (state, state, all, l, l, (λ n. untouched_among (state n)), clean)

pub whole_then : WholeThen
whole_then language all more removed added later_removed later_added c runs =
    let later = runs c.1 c.4 in (
      c.0,
      later.0,
      c.2,
      c.3,
      later.1,
      (λ n. among_both (c.0 n) (c.1 n) (later.0 n) (removed n) (added n) (later_removed n) (later_added n) (c.5 n) (touched_among (c.1 n) (later.0 n) (later_removed n) (later_added n) (later.2 n))),
      c.6,
    )

pub whole_among : WholeAmong
whole_among language all removed added more_removed more_added c g k = (
  c.0,
  c.1,
  c.2,
  c.3,
  c.4,
  (λ n. record { stay = λ row h. elim ((c.5 n).stay row h) [ inl x ↦ inl x | inr y ↦ inr (g n row y) ]; comes = λ row h. elim ((c.5 n).comes row h) [ inl x ↦ inl x | inr y ↦ inr (k n row y) ] }),
  c.6,
)

pub no_orphan_then : NoOrphanThen
unfolding transacted
no_orphan_then language t ss state next h =
    let a = then_ok (run_statements t ss state) (λ next. unless_orphan language next (first_orphan language next)) next h in
    let o = accepted language a.0 next (first_orphan language a.0) a.2 in
    subst (λ x. first_orphan language x ≡ None) o.1 o.0

no_orphan_next : (language : Language) (state : State) (x : Result State Refusal) → first_orphan language state ≡ None → ((next : State) → x ≡ Ok next → first_orphan language next ≡ None) → first_orphan language (result_unwrap_or x state) ≡ None
no_orphan_next language state (Ok next) h f = f next refl
no_orphan_next language state (Err e) h f = h

no_orphan_text : (language : Language) (t : ℕ) (text : List ℕ) (state next : State) → executed_text language t text state ≡ Ok next → first_orphan language next ≡ None
unfolding executed_text
no_orphan_text language t text state next h = no_orphan_then language t (result_unwrap_or (language.reads text) []) state next h

-- what the request of an entry leaves, if it is a first that is accepted
abbrev after_request : Language → ℕ → Option Request → List Entry → State → State
after_request language t o before state = option_map_or (λ (r : Request). cond (is_first r before) (result_unwrap_or (executed_text language t r.text state) state) state) o state

no_orphan_request : (language : Language) (t : ℕ) (o : Option Request) (before : List Entry) (state : State) → first_orphan language state ≡ None → first_orphan language (after_request language t o before state) ≡ None
no_orphan_request language t None before state h = h
no_orphan_request language t (Some r) before state h = by (is_first r before)
  where
    by : (b : Bool) → first_orphan language (cond b (result_unwrap_or (executed_text language t r.text state) state) state) ≡ None
    by true = no_orphan_next language state (executed_text language t r.text state) h (no_orphan_text language t r.text state)
    by false = h

no_orphan_empty : (language : Language) → first_orphan language (λ n. empty_table) ≡ None
unfolding empty_table
no_orphan_empty language = (hold_is language (λ n. []) (λ n. empty_table) (λ n. lists_none)).1 (λ f g lt k d c e. absurd (cc))

pub no_orphan_after : NoOrphanAfter
unfolding state_after
no_orphan_after language [] = no_orphan_empty language
no_orphan_after language (e ∷ before) = no_orphan_request language e.stamp e.request before (state_after language before) (no_orphan_after language before)

pub transaction_touched : TransactionTouched
unfolding rows_transacted
transaction_touched language t ss before all removed added picked state run c l is =
    ap (λ x. and_then x (λ next. rows_unless_orphan language next (rows_orphan language (all_in_order next)))) run
    ∙ ap (rows_unless_orphan language all) (same_orphan language all state l ∙ sym (picked_orphan_is language all removed added picked state c l is))
