-- References looked at where a transaction touched: which rows are picked, and the tables in turn.
use Rattle.std.proofs.Common.{◌≡◌, ℕ, zero, suc, ◌+◌, ◌-◌, ◌<◌, ◌≤◌, ◌==◌, ◌⊎◌, inl, inr, true, false, cond, List, [], ◌∷◌, ◌++◌, map, flat_map, length, Option, Some, None, refl, sym, ap, ◌∙◌, subst, arith, Ordering}
use Rattle.std.proofs.lemmas.Bool.{cases_Bool, cases_lt, eqb-true, eq-eqb}
use Rattle.std.specs.Prelude.{slice_get}
use Rattle.std.specs.List.{range_with_len}
use Rattle.std.specs.Option.{option_map_or}
use Rattle.std.specs.declared.cmp.Ordering.TheVariants.{Less, Equal, Greater}
use Rattle.model.specs.Tables.{Row}
use Rattle.model.specs.Transactions.{State, Language, Reference, Place, first_orphan}
use Rattle.rowlaws.specs.Rows.{Has}
use Rattle.rowlaws.specs.Statements.{Rows, AllListed}
use Rattle.rowlaws.specs.Covering.{missing, place_at}
use Rattle.rowlaws.specs.Whole.{ComesFromWhole}
use Rattle.rowlaws.specs.Suspects.{rows_losing, suspects_by, suspects, by_order, day_cmp, earlier, first_among, first_in_tables, picked_orphan, PickedOrphan}
use Rattle.rowlaws.proofs.Members.{has_cases, map_has, flat_has}
use Rattle.rowlaws.proofs.RowFacts.{both}
use Rattle.schema.specs.Shape.{TableShape, ReferenceShape}
use Rattle.sqlchecks.specs.Columns.{Tables}
use Rattle.sqlread.specs.Meaning.{reference_of, references_from, language_of}
use Rattle.current.specs.Suspects.{IsFirstOf, IsFirstPicked}
use Rattle.current.proofs.Orphans.{found_first, found_later, missing_of_table, range_more}

-- ---- the foreign keys of one table among all

later_child : (m : ℕ) (ts : Tables) (f : Reference) → Has (references_from m ts) f → m ≤ f.child
later_child m [] f h = absurd h
later_child m (t ∷ ts) f h = elim (has_cases (map (reference_of m t.1) t.1.references) (references_from (m + 1) ts) f h) [
  | inl g ↦ let s = map_has (reference_of m t.1) t.1.references f g in let e : f.child ≡ m = ap (λ (x : Reference). x.child) s.2 in omega (arith, e)
  | inr g ↦ let l = later_child (m + 1) ts f g in omega arith
]

of_table : (m k n : ℕ) (ts : Tables) (name : List ℕ) (t : TableShape) (f : Reference) → m + k ≡ n → slice_get ts k ≡ Some (name, t) → Has (references_from m ts) f → f.child ≡ n → (s : ReferenceShape) × Has t.references s × (f ≡ reference_of n t s)
of_table m k n [] name t f i e h c = absurd h
of_table m zero n (u ∷ ts) name t f i e h c =
    let same : u.1 ≡ t = ap (λ o. option_map_or (λ (x : List ℕ × TableShape). x.1) o t) e in
    let here : m ≡ n = omega (arith, i) in
    elim (has_cases (map (reference_of m u.1) u.1.references) (references_from (m + 1) ts) f h) [
      | inl g ↦
          let s = map_has (reference_of m u.1) u.1.references f g in
          (s.0, subst (λ (x : TableShape). Has x.references s.0) same s.1, s.2 ∙ ap (λ (x : TableShape). reference_of m x s.0) same ∙ ap (λ (j : ℕ). reference_of j t s.0) here)
      | inr g ↦ let l = later_child (m + 1) ts f g in absurd (omega (arith, c, i))
    ]
of_table m (suc k) n (u ∷ ts) name t f i e h c = elim (has_cases (map (reference_of m u.1) u.1.references) (references_from (m + 1) ts) f h) [
  | inl g ↦ let s = map_has (reference_of m u.1) u.1.references f g in let d : f.child ≡ m = ap (λ (x : Reference). x.child) s.2 in absurd (omega (arith, c, d, i))
  | inr g ↦ of_table (m + 1) k n ts name t f (omega (arith, i)) e g c
]

among_same : (ts : Tables) (n : ℕ) (name : List ℕ) (t : TableShape) (all : Rows) (rows : List Row) → slice_get ts n ≡ Some (name, t) → first_among (references_from 0 ts) all n rows ≡ first_among (map (reference_of n t) t.references) all n rows
among_same ts n name t all [] h = refl
among_same ts n name t all (r ∷ rows) h = rw (missing_of_table ts n name t all r h, among_same ts n name t all rows h) refl

-- ---- the suspects of one table

module _ (ts : Tables) (n : ℕ) (name : List ℕ) (t : TableShape) (all removed added : Rows) (is : slice_get ts n ≡ Some (name, t)) where
  abbrev Suspect : Row → Type 0
  Suspect r = Has (added n) r ⊎ ((s : ReferenceShape) × Has t.references s × (row : Row) × Has (removed s.parent) row × Has (rows_losing (reference_of n t s) (all n) (all s.parent) row) r)

  abbrev by_reference : Reference → List Row
  by_reference f = added n ++ flat_map (rows_losing f (all n) (all f.parent)) (removed f.parent)

  -- a row that came, or one that has a day that a key it refers to lost
  suspect_is : (r : Row) → Has (suspects (references_from 0 ts) all removed added n) r → (s : ReferenceShape) × Has t.references s × Suspect r
  suspect_is r h = let x = flat_has (suspects_by all removed added n) (references_from 0 ts) r h in by x.0 x.1 x.2 (cases_Bool (x.0.child == n))
    where
      of_shape : (s : ReferenceShape) → Has t.references s → Has (by_reference (reference_of n t s)) r → Suspect r
      of_shape s has g = elim (has_cases (added n) (flat_map (rows_losing (reference_of n t s) (all n) (all s.parent)) (removed s.parent)) r g) [
        | inl c ↦ inl c
        | inr k ↦ let x = flat_has (rows_losing (reference_of n t s) (all n) (all s.parent)) (removed s.parent) r k in inr (s, has, x.0, x.1, x.2)
      ]

      by : (f : Reference) → Has (references_from 0 ts) f → Has (suspects_by all removed added n f) r → ((f.child == n) ≡ true) ⊎ ((f.child == n) ≡ false) → (s : ReferenceShape) × Has t.references s × Suspect r
      by f has g (inl y) =
          let s = of_table 0 n n ts name t f (omega arith) is has (eqb-true f.child n y) in
          let here : Has (by_reference f) r = subst (λ b. Has (cond b (by_reference f) []) r) y g in
          (s.0, s.1, of_shape s.0 s.1 (subst (λ (x : Reference). Has (by_reference x) r) s.2 here))
      by f has g (inr x) = absurd (subst (λ b. Has (cond b (by_reference f) []) r) x g)

  pub none_picked : (length t.references == 0) ≡ true → IsFirstPicked (references_from 0 ts) all removed added n None
  none_picked none = ([], ((λ r h. absurd h), refl), λ r h g. let x = suspect_is r h in absurd (no_element t.references x.0 (eqb-true (length t.references) 0 none) x.1))
    where
      no_element : {A : Type 0} (xs : List A) (x : A) → length xs ≡ 0 → Has xs x → ⊥
      no_element [] x e h = h
      no_element (y ∷ ys) x e h = omega (arith, e)

  -- rows with those that came and stand, and those that have a lost day, among them
  pub all_picked : (picked : List Row) (found : Option Place) → IsFirstOf (map (reference_of n t) t.references) all n picked found → ((r : Row) → Has (added n) r × Has (all n) r → Has picked r)
      → ((r : Row) → (s : ReferenceShape) × Has t.references s × (row : Row) × Has (removed s.parent) row × Has (rows_losing (reference_of n t s) (all n) (all s.parent) row) r → Has picked r)
      → IsFirstPicked (references_from 0 ts) all removed added n found
  all_picked picked found first came losing = (
    picked,
    (first.0, first.1 ∙ sym (among_same ts n name t all picked is)),
    (λ r h stands. elim ((suspect_is r h).2) [ inl c ↦ came r (c, stands) | inr l ↦ losing r l ]),
  )

-- ---- tables in turn

by_order_there : (n : ℕ) (o : Ordering) (p q : Place) → p.table ≡ n → q.table ≡ n → (by_order o p q).table ≡ n
by_order_there n Less p q a b = a
by_order_there n Equal p q a b = a
by_order_there n Greater p q a b = b

abbrev There : ℕ → Option Place → Type 0
There n o = (p : Place) → o ≡ Some p → p.table ≡ n

some_same : (p q : Place) → Some p ≡ Some q → p ≡ q
some_same p q e = ap (λ o. option_map_or (λ (x : Place). x) o p) e

earlier_there : (n : ℕ) (a b : Option Place) → There n a → There n b → There n (earlier a b)
earlier_there n None b h i p e = i p e
earlier_there n (Some a) None h i p e = h p e
earlier_there n (Some a) (Some b) h i p e = subst (λ (x : Place). x.table ≡ n) (some_same (by_order (day_cmp a b) a b) p e) (by_order_there n (day_cmp a b) a b (h a refl) (i b refl))

place_there : (n : ℕ) (r : Row) (o : Option ℕ) → There n (place_at n r o None)
place_there n r None p e = absurd (cc)
place_there n r (Some d) p e = sym (ap (λ (x : Place). x.table) (some_same (record { table = n; key = r.key; day = d }) p e))

-- the first day among rows of a table is of that table
pub among_there : (fs : List Reference) (all : Rows) (n : ℕ) (rows : List Row) (p : Place) → first_among fs all n rows ≡ Some p → p.table ≡ n
among_there fs all n [] p e = absurd (cc)
among_there fs all n (r ∷ rows) p e = earlier_there n (place_at n r (missing fs all n r) None) (first_among fs all n rows) (place_there n r (missing fs all n r)) (λ q. among_there fs all n rows q) p e

module _ (fs : List Reference) (all picked : Rows) where
  from_here : (n end : ℕ) → n ≤ end → ((m : ℕ) → m < n → first_among fs all m (picked m) ≡ None) → first_in_tables fs all picked (range_with_len 0 end) ≡ first_in_tables fs all picked (range_with_len n (end - n))
  from_here zero end l h = let e : end ≡ end - 0 = omega arith in ap (λ k. first_in_tables fs all picked (range_with_len 0 k)) e
  from_here (suc n) end l h =
      let e : n + 1 ≡ suc n = omega arith in
      from_here n end (omega arith) (λ m b. h m (omega arith))
      ∙ ap (first_in_tables fs all picked) (range_more n end (omega arith))
      ∙ found_later (first_among fs all n (picked n)) (first_in_tables fs all picked (range_with_len (n + 1) (end - (n + 1)))) (h n (omega arith))
      ∙ ap (λ k. first_in_tables fs all picked (range_with_len k (end - k))) e

  found_here : (n end : ℕ) (p : Place) → n < end → ((m : ℕ) → m < n → first_among fs all m (picked m) ≡ None) → first_among fs all n (picked n) ≡ Some p → first_in_tables fs all picked (range_with_len 0 end) ≡ Some p
  found_here n end p l h found =
      from_here n end (omega arith) h
      ∙ ap (first_in_tables fs all picked) (range_more n end l)
      ∙ found_first (first_among fs all n (picked n)) (first_in_tables fs all picked (range_with_len (n + 1) (end - (n + 1)))) p found

  none_found : (end : ℕ) → ((m : ℕ) → m < end → first_among fs all m (picked m) ≡ None) → first_in_tables fs all picked (range_with_len 0 end) ≡ None
  none_found end h = let e : end - end ≡ 0 = omega arith in from_here end end (omega arith) h ∙ ap (λ k. first_in_tables fs all picked (range_with_len end k)) e

abbrev Picked : Language → Rows → Rows → Rows → ℕ → Option Place → Type 0
Picked language all removed added n found = IsFirstPicked language.references all removed added n found

module _ (law : PickedOrphan) (language : Language) (all removed added : Rows) (whole : ComesFromWhole language all removed added)
    (n : ℕ) (before : (m : ℕ) → m < n → Picked language all removed added m None) (found : Option Place) (here : Picked language all removed added n found) where
  choice : (m : ℕ) → (x : Option Place) × Picked language all removed added m x × (m < n → x ≡ None) × (m ≡ n → x ≡ found)
  choice m = elim (cases_lt m n) [
    | inl l ↦ (None, before m l, (λ b. refl), (λ e. absurd (omega (arith, e))))
    | inr g ↦ elim (cases_Bool (m == n)) [
      | inl y ↦ (found, subst (λ k. Picked language all removed added k found) (sym (eqb-true m n y)) here, (λ b. absurd (omega arith)), (λ e. refl))
      | inr x ↦ (first_among language.references all m (all m), (all m, ((λ r h. h), refl), λ r h g'. g'), (λ b. absurd (omega arith)), (λ e. absurd (both (eq-eqb m n e) x)))
    ]
  ]

  abbrev picked : Rows
  picked m = (choice m).1.0

  searched : (state : State) → AllListed all state → picked_orphan language all picked ≡ first_orphan language state
  searched state listed = law language all removed added picked state whole listed (record { listed = λ m. (choice m).1.1.0; each = λ m. (choice m).1.2 })

  none_yet : (m : ℕ) → m < n → first_among language.references all m (picked m) ≡ None
  none_yet m l = let c = choice m in sym c.1.1.1 ∙ c.2 l

  first_here : (p : Place) → found ≡ Some p → n < language.tables → (state : State) → AllListed all state → Some p ≡ first_orphan language state
  unfolding picked_orphan
  first_here p e l state listed = let c = choice n in sym (found_here language.references all picked n language.tables p l none_yet (sym c.1.1.1 ∙ c.3 refl ∙ e)) ∙ searched state listed

  nowhere : language.tables ≤ n → (state : State) → AllListed all state → None ≡ first_orphan language state
  unfolding picked_orphan
  nowhere b state listed = sym (none_found language.references all picked language.tables (λ m l. none_yet m (omega arith))) ∙ searched state listed

module _ (law : PickedOrphan) (ts : Tables) (all removed added : Rows) (whole : ComesFromWhole (language_of ts) all removed added)
    (n : ℕ) (before : (m : ℕ) → m < n → IsFirstPicked (references_from 0 ts) all removed added m None) where
  pub orphan_here : (p : Place) → IsFirstPicked (references_from 0 ts) all removed added n (Some p) → n < length ts → (state : State) → AllListed all state → Some p ≡ first_orphan (language_of ts) state
  unfolding language_of
  orphan_here p here l = first_here law (language_of ts) all removed added whole n before (Some p) here p refl l

  pub no_orphan : length ts ≤ n → (state : State) → AllListed all state → None ≡ first_orphan (language_of ts) state
  unfolding language_of
  no_orphan l = nowhere law (language_of ts) all removed added whole n before (first_among (references_from 0 ts) all n (all n)) (all n, ((λ r h. h), refl), λ r h g. g) l

pub one_more : (P : ℕ → Type 0) (n : ℕ) → ((m : ℕ) → m < n → P m) → P n → (m : ℕ) → m < n + 1 → P m
one_more P n before here m l = elim (cases_lt m n) [
  | inl b ↦ before m b
  | inr g ↦ let e : n ≡ m = omega arith in subst P e here
]
