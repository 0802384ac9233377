-- What goes and comes with a row, found by looking at the row alone.
use Rattle.std.proofs.Common.{◌≡◌, ℕ, ◌<◌, ◌≤◌, Bool, true, false, cond, not, List, [], ◌∷◌, ◌++◌, filter, flat_map, refl, sym, ap, ◌∙◌, subst, inl, inr, arith, min, max}
use Rattle.std.specs.Prelude.{unwrap_or}
use Rattle.std.specs.List.{list_any}
use Rattle.std.proofs.lemmas.Bool.{cases_lt, and_parts, lt-ltb, le-ltb, ltb-true}
use Rattle.std.proofs.lemmas.List.Elements.{filter-append}
use Rattle.model.specs.declared.value.Value.{Value}
use Rattle.model.specs.Tables.{Table, Row, Period}
use Rattle.model.specs.Statements.{meets}
use Rattle.model.specs.Transactions.{Action, Insert, Update, Delete}
use Rattle.rowlaws.specs.Rows.{Has, Lists}
use Rattle.rowlaws.specs.Cutting.{part, if_days, pieces, rest}
use Rattle.rowlaws.specs.Touching.{same_row, rows_without, removed_by, added_by}
use Rattle.rowlaws.proofs.Members.{has_cases, has_flat, flat_has, filter_has}
use Rattle.rowlaws.proofs.RowFacts.{one_row, both}
use Rattle.rowlaws.proofs.Anys.{any_has, has_any, same_test}
use Rattle.current.specs.Corrections.{is_met, made, removed_at, added_at}
use Rattle.current.proofs.InStrand.{HasPortion}
use Rattle.rowlaws.proofs.SameRow.{same_row-true, same_row-itself}

-- a part of the row
pub record PartOf (r y : Row) : Type 0 where
  pub key : y.key ≡ r.key
  pub from : r.period.start ≤ y.period.start
  pub some : y.period.start < y.period.end
  pub to : y.period.end ≤ r.period.end

if_part : (s e : ℕ) (q y : Row) → Has (if_days s e q) y → (s < e) × (y ≡ q)
if_part s e q y h = elim (cases_lt s e) [
  | inl l ↦ (l, elim (subst (λ b. Has (cond b (q ∷ []) []) y) (lt-ltb s e l) h) [ inl i ↦ i | inr n ↦ absurd n ])
  | inr g ↦ absurd (subst (λ b. Has (cond b (q ∷ []) []) y) (le-ltb s e g) h)
]

overlap : (passes : Row → Bool) (p : Period) (r : Row) → meets passes p r ≡ true → (r.period.start < p.end) × (p.start < r.period.end)
overlap passes p r h = let ps = and_parts _ _ h in let qs = and_parts _ _ ps.0 in (ltb-true _ _ qs.1, ltb-true _ _ ps.1)

module _ (r : Row) (p : Period) (t : ℕ) (a : r.period.start < p.end) (b : p.start < r.period.end) (le : p.start < p.end) (some : r.period.start < r.period.end) where
  before_part : (y : Row) → Has (if_days r.period.start p.start (part r r.period.start p.start r.values t)) y → PartOf r y
  before_part y h =
      let i = if_part r.period.start p.start (part r r.period.start p.start r.values t) y h in
      let l = i.0 in
      let it : PartOf r (part r r.period.start p.start r.values t) = record { key = refl; from = omega arith; some = l; to = omega arith } in
      subst (λ q. PartOf r q) (sym i.1) it

  after_part : (y : Row) → Has (if_days p.end r.period.end (part r p.end r.period.end r.values t)) y → PartOf r y
  after_part y h =
      let i = if_part p.end r.period.end (part r p.end r.period.end r.values t) y h in
      let l = i.0 in
      let it : PartOf r (part r p.end r.period.end r.values t) = record { key = refl; from = omega arith; some = l; to = omega arith } in
      subst (λ q. PartOf r q) (sym i.1) it

  mid_part : (values : List Value) → PartOf r (part r (max r.period.start p.start) (min r.period.end p.end) values t)
  mid_part values = record { key = refl; from = omega arith; some = omega arith; to = omega arith }

made_part : (c : Action) (t : ℕ) (r y : Row) → HasPortion c → is_met c r ≡ true → r.period.start < r.period.end → Has (made c t r) y → PartOf r y
made_part (Insert k v p) t r y fine met some h = absurd (both met refl)
made_part (Update passes p set) t r y fine met some h =
    let o = overlap passes p r met in
    elim (has_cases (if_days r.period.start p.start (part r r.period.start p.start r.values t)) _ y h) [
      | inl l ↦ before_part r p t o.0 o.1 fine some y l
      | inr m ↦ elim m [
        | inl i ↦ subst (λ q. PartOf r q) (sym i) (mid_part r p t o.0 o.1 fine some (unwrap_or (set r.values) r.values))
        | inr l ↦ after_part r p t o.0 o.1 fine some y l
      ]
    ]
made_part (Delete passes p) t r y fine met some h =
    let o = overlap passes p r met in
    elim (has_cases (if_days r.period.start p.start (part r r.period.start p.start r.values t)) _ y h) [
      | inl l ↦ before_part r p t o.0 o.1 fine some y l
      | inr l ↦ after_part r p t o.0 o.1 fine some y l
    ]

-- ---- filters over what is made

-- tests that agree on the elements keep the same
filter_same : {A : Type 0} (p q : A → Bool) (xs : List A) → ((x : A) → Has xs x → p x ≡ q x) → filter p xs ≡ filter q xs
filter_same p q [] h = refl
filter_same p q (x ∷ xs) h = ap (λ b. cond b (x ∷ filter p xs) (filter p xs)) (h x (inl refl)) ∙ ap (λ ys. cond (q x) (x ∷ ys) ys) (filter_same p q xs (λ y g. h y (inr g)))

module _ {A B : Type 0} where
  flat_same : (f g : A → List B) (xs : List A) → ((x : A) → Has xs x → f x ≡ g x) → flat_map f xs ≡ flat_map g xs
  flat_same f g [] h = refl
  flat_same f g (x ∷ xs) h = ap (λ ys. ys ++ flat_map f xs) (h x (inl refl)) ∙ ap (λ ys. g x ++ ys) (flat_same f g xs (λ y i. h y (inr i)))

  filter_flat : (p : B → Bool) (f : A → List B) (xs : List A) → filter p (flat_map f xs) ≡ flat_map (λ x. filter p (f x)) xs
  filter_flat p f [] = refl
  filter_flat p f (x ∷ xs) = filter-append p (f x) (flat_map f xs) ∙ ap (λ ys. filter p (f x) ++ ys) (filter_flat p f xs)

  -- over those that pass
  flat_filter : (p : A → Bool) (f : A → List B) (xs : List A) → flat_map f (filter p xs) ≡ flat_map (λ x. cond (p x) (f x) []) xs
  flat_filter p f [] = refl
  flat_filter p f (x ∷ xs) = by (p x) (flat_filter p f xs)
    where
      by : (b : Bool) → flat_map f (filter p xs) ≡ flat_map (λ y. cond (p y) (f y) []) xs → flat_map f (cond b (x ∷ filter p xs) (filter p xs)) ≡ cond b (f x) [] ++ flat_map (λ y. cond (p y) (f y) []) xs
      by true h = ap (λ ys. f x ++ ys) h
      by false h = h

one_each : {A : Type 0} (p : A → Bool) (xs : List A) → filter p xs ≡ flat_map (λ x. filter p (x ∷ [])) xs
one_each p [] = refl
one_each p (x ∷ xs) = by (p x) (one_each p xs)
  where
    by : (b : Bool) → filter p xs ≡ flat_map (λ y. filter p (y ∷ [])) xs → cond b (x ∷ filter p xs) (filter p xs) ≡ cond b (x ∷ []) [] ++ flat_map (λ y. filter p (y ∷ [])) xs
    by true h = ap (λ ys. x ∷ ys) h
    by false h = h

module _ (test : Row → Bool) (g : Row → List Row) (rows : List Row) (table : Table) (l : Lists rows table) (parts : (r y : Row) → Has rows r → test r ≡ true → Has (g r) y → PartOf r y) where
  abbrev met : List Row
  met = filter test rows

  -- rows with parts that have a day in common are one
  same_whole : (r w y : Row) → Has met r → Has met w → PartOf r y → PartOf w y → r ≡ w
  same_whole r w y h i a b =
      let from = a.from in
      let some = a.some in
      let to = a.to in
      let from' = b.from in
      let to' = b.to in
      one_row (l.each r (filter_has test rows r h).0) (l.each w (filter_has test rows w i).0) y.key y.period.start
      (record { key = sym a.key; from = from; before = omega arith })
      (record { key = sym b.key; from = from'; before = omega arith })

  whole : (r : Row) → Has met r → PartOf r r
  whole r h = let some = (l.each r (filter_has test rows r h).0).some in record { key = refl; from = omega arith; some = some; to = omega arith }

  met_part : (r y : Row) → Has met r → Has (g r) y → PartOf r y
  met_part r y h i = let f = filter_has test rows r h in parts r y f.0 f.1 i

  made_again : (r : Row) → Has met r → list_any (same_row r) (flat_map g met) ≡ list_any (same_row r) (g r)
  made_again r h = same_test _ _
      (λ a.
      let x = any_has (same_row r) (flat_map g met) a in
      let f = flat_has g met x.0 x.1 in
      let e = same_row-true r x.0 x.2 in
      let there : Has (g f.0) r = subst (λ z. Has (g f.0) z) (sym e) f.2 in
      let w = same_whole r f.0 r h f.1 (whole r h) (met_part f.0 r f.1 there) in
      has_any (same_row r) (g r) r (subst (λ z. Has (g z) r) (sym w) there) (same_row-itself r))
      (λ a.
      let x = any_has (same_row r) (g r) a in
      has_any (same_row r) (flat_map g met) x.0 (has_flat g met r x.0 h x.1) x.2)

  met_before : (r y : Row) → Has met r → Has (g r) y → list_any (same_row y) met ≡ list_any (same_row y) (r ∷ [])
  met_before r y h i = same_test _ _
      (λ a.
      let x = any_has (same_row y) met a in
      let e = same_row-true y x.0 x.2 in
      let there : Has met y = subst (λ z. Has met z) (sym e) x.1 in
      let w = same_whole r y y h there (met_part r y h i) (whole y there) in
      let one : Has (r ∷ []) y = inl (sym w) in
      has_any (same_row y) (r ∷ []) y one (same_row-itself y))
      (λ a.
      let x = any_has (same_row y) (r ∷ []) a in
      let e : x.0 ≡ r = elim x.1 [ inl i ↦ i | inr n ↦ absurd n ] in
      has_any (same_row y) met x.0 (subst (λ z. Has met z) (sym e) h) x.2)

  pub removed_alone : rows_without met (flat_map g met) ≡ flat_map (λ r. cond (test r) (rows_without (r ∷ []) (g r)) []) rows
  unfolding rows_without
  removed_alone =
      filter_same (λ r. not (list_any (same_row r) (flat_map g met))) (λ r. not (list_any (same_row r) (g r))) met (λ r h. ap not (made_again r h))
      ∙ one_each (λ r. not (list_any (same_row r) (g r))) met
      ∙ flat_filter test (λ r. rows_without (r ∷ []) (g r)) rows

  pub added_alone : rows_without (flat_map g met) met ≡ flat_map (λ r. cond (test r) (rows_without (g r) (r ∷ [])) []) rows
  unfolding rows_without
  added_alone =
      filter_flat (λ y. not (list_any (same_row y) met)) g met
      ∙ flat_same (λ r. filter (λ y. not (list_any (same_row y) met)) (g r)) (λ r. rows_without (g r) (r ∷ [])) met (λ r h. filter_same (λ y. not (list_any (same_row y) met)) (λ y. not (list_any (same_row y) (r ∷ []))) (g r) (λ y i. ap not (met_before r y h i)))
      ∙ flat_filter test (λ r. rows_without (g r) (r ∷ [])) rows

-- it is an UPDATE or a DELETE
abbrev pub IsOfRows : Action → Type 0
IsOfRows (Insert key values p) = ⊥
IsOfRows (Update passes p set) = Unit {0}
IsOfRows (Delete passes p) = Unit {0}

pub removed_is : (c : Action) (t : ℕ) (rows : List Row) (table : Table) → IsOfRows c → HasPortion c → Lists rows table → removed_by c t rows ≡ flat_map (removed_at c t) rows
removed_is (Insert k v p) t rows table of fine l = absurd of
removed_is (Update passes p set) t rows table of fine l = removed_alone (meets passes p) (pieces p set t) rows table l (λ r y h m i. made_part (Update passes p set) t r y fine m (l.each r h).some i)
removed_is (Delete passes p) t rows table of fine l = removed_alone (meets passes p) (rest p t) rows table l (λ r y h m i. made_part (Delete passes p) t r y fine m (l.each r h).some i)

pub added_is : (c : Action) (t : ℕ) (rows : List Row) (table : Table) → IsOfRows c → HasPortion c → Lists rows table → added_by c t rows ≡ flat_map (added_at c t) rows
added_is (Insert k v p) t rows table of fine l = absurd of
added_is (Update passes p set) t rows table of fine l = added_alone (meets passes p) (pieces p set t) rows table l (λ r y h m i. made_part (Update passes p set) t r y fine m (l.each r h).some i)
added_is (Delete passes p) t rows table of fine l = added_alone (meets passes p) (rest p t) rows table l (λ r y h m i. made_part (Delete passes p) t r y fine m (l.each r h).some i)
