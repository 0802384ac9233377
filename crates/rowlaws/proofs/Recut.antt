-- A list of rows each of which is cut into pieces lists the rows of the new table.
use Rattle.std.proofs.Common.{◌≡◌, ℕ, ◌<◌, ◌≤◌, ◌⊎◌, inl, inr, true, cond, List, [], ◌∷◌, ◌++◌, Option, Some, None, is_some, max, min, refl, sym, ap, ◌∙◌, subst, arith, flat_map, nat_lt}
use Rattle.std.specs.List.Sorted.{IsStrictlySortedBy}
use Rattle.std.proofs.lemmas.Bool.{cases_lt, cases_Bool, lt-ltb, le-ltb}
use Rattle.model.specs.declared.value.Value.{Value}
use Rattle.model.specs.Values.{key_cmp}
use Rattle.model.specs.Tables.{Period, Fact, Table, Row, IsRow}
use Rattle.rowlaws.specs.Rows.{Has, Apart, Lists}
use Rattle.rowlaws.specs.Cutting.{if_days, part}
use Rattle.rowlaws.proofs.Members.{has_left, has_right, has_cases, apart_append, has_flat, flat_has, apart_flat}
use Rattle.rowlaws.proofs.Listed.{row_listed}
use Rattle.rowlaws.proofs.RowFacts.{both, one_row}

-- z is a piece of r
pub record PieceOf (r z : Row) : Type 0 where
  pub key : z.key ≡ r.key
  pub from : r.period.start ≤ z.period.start
  pub some : z.period.start < z.period.end
  pub to : z.period.end ≤ r.period.end

-- the pieces of r are rows of the table, and have all days of r that it fills
pub record Cuts (f : Row → List Row) (new : Table) (r : Row) : Type 0 where
  pub each : (z : Row) → Has (f r) z → IsRow new z × PieceOf r z
  pub apart : Apart (f r)
  pub covers : (d : ℕ) (c : Fact) → r.period.start ≤ d → d < r.period.end → new.fact r.key d ≡ Some c → (z : Row) × Has (f r) z × (z.key ≡ r.key) × (z.period.start ≤ d) × (d < z.period.end)

pub some_fact : {A : Type 0} (o : Option A) → is_some o ≡ true → (c : A) × (o ≡ Some c)
some_fact None h = absurd (both h refl)
some_fact (Some c) h = (c, refl)

module _ (f : Row → List Row) (old new : Table) (same_keys : new.keys ≡ old.keys) (from : (k : List Value) (d : ℕ) (c : Fact) → new.fact k d ≡ Some c → is_some (old.fact k d) ≡ true)
    (rows : List Row) (l : Lists rows old) (cuts : (r : Row) → Has rows r → Cuts f new r) where
  pub lists_cut : Lists (flat_map f rows) new
  lists_cut = record {
    each = λ z h. let o = flat_has f rows z h in ((cuts o.0 o.1).each z o.2).0;
    every = λ k d c h.
        let fact = some_fact (old.fact k d) (from k d c h) in
        let r = l.every k d fact.0 fact.1 in
        let z = (cuts r.0 r.1).covers d c r.3 r.4 (subst (λ m. new.fact m d ≡ Some c) (sym r.2) h) in
        (z.0, has_flat f rows r.0 z.0 r.1 z.1, z.2 ∙ r.2, z.3, z.4);
    once = apart_flat f rows l.once (λ r h. (cuts r h).apart) (λ x w z h g a b.
        let px = ((cuts x h).each z a).1 in
        let pw = ((cuts w g).each z b).1 in
        let s = px.some in
        let x0 = px.from in
        let x1 = px.to in
        let w0 = pw.from in
        let w1 = pw.to in
        one_row (l.each x h) (l.each w g) z.key z.period.start (record { key = sym px.key; from = px.from; before = omega arith }) (record { key = sym pw.key; from = pw.from; before = omega arith }));
    within = λ z h. let o = flat_has f rows z h in let q = ((cuts o.0 o.1).each z o.2).1 in let a = q.to in let b = l.within o.0 o.1 in omega arith;
    keyed = λ z h. let o = flat_has f rows z h in let q = ((cuts o.0 o.1).each z o.2).1 in subst (λ ks. Has ks z.key) (sym same_keys) (subst (λ k. Has old.keys k) (sym q.key) (l.keyed o.0 o.1));
    keys = subst (λ ks. IsStrictlySortedBy key_cmp ks) (sym same_keys) l.keys;
  }

-- ---- a row, if its period has a day

pub days_has : (s e : ℕ) (x z : Row) → Has (if_days s e x) z → (s < e) × (z ≡ x)
days_has s e x z h = elim (cases_lt s e) [
  | inl l ↦ elim (subst (λ b. Has (cond b (x ∷ []) []) z) (lt-ltb s e l) h) [ inl i ↦ (l, i) | inr n ↦ absurd n ]
  | inr g ↦ absurd (subst (λ b. Has (cond b (x ∷ []) []) z) (le-ltb s e g) h)
]

pub has_days : (s e : ℕ) (x : Row) → s < e → Has (if_days s e x) x
has_days s e x l = rw (lt-ltb s e l) (inl refl)

pub apart_days : (s e : ℕ) (x : Row) → Apart (if_days s e x)
apart_days s e x = elim (cases_Bool (nat_lt s e)) [ inl y ↦ rw y ((λ h. h), tt) | inr n ↦ rw n tt ]

-- ---- one row

-- the row stays as it is
pub one_cuts : (f : Row → List Row) (new : Table) (r : Row) → f r ≡ r ∷ [] → IsRow new r → Cuts f new r
one_cuts f new r e row = record {
  each = λ z h. elim (subst (λ xs. Has xs z) e h) [ inl q ↦ subst (λ x. IsRow new x × PieceOf r x) (sym q) (row, record { key = refl; from = omega arith; some = row.some; to = omega arith }) | inr x ↦ absurd x ];
  apart = let one : Apart (r ∷ []) = ((λ x. x), tt) in subst (λ xs. Apart xs) (sym e) one;
  covers = λ d c x y h. let here : Has (r ∷ []) r = inl refl in (r, subst (λ xs. Has xs r) (sym e) here, refl, x, y);
}

-- what is made of the days within the portion
pub record Middle (p : Period) (t : ℕ) (new : Table) (r : Row) (ms : List Row) : Type 0 where
  pub each : (z : Row) → Has ms z → IsRow new z × (z.key ≡ r.key) × (z.period.start ≡ max r.period.start p.start) × (z.period.end ≡ min r.period.end p.end) × (z.system_start ≡ t)
  pub apart : Apart ms
  pub covers : (d : ℕ) (c : Fact) → r.period.start ≤ d → d < r.period.end → p.start ≤ d → d < p.end → new.fact r.key d ≡ Some c → (z : Row) × Has ms z

-- the row is cut in what is before the portion, within it and after it
module _ (f : Row → List Row) (new : Table) (p : Period) (t : ℕ) (r : Row) (ms : List Row) (le : p.start < p.end) (some : r.period.start < r.period.end) (a_day : r.period.start < p.end) (b_day : p.start < r.period.end) (middle : Middle p t new r ms)
    (before_row : r.period.start < p.start → IsRow new (part r r.period.start p.start r.values t)) (after_row : p.end < r.period.end → IsRow new (part r p.end r.period.end r.values t)) where
  abbrev fore : Row
  fore = part r r.period.start p.start r.values t

  abbrev aft : Row
  aft = part r p.end r.period.end r.values t

  abbrev first : List Row
  first = if_days r.period.start p.start fore

  abbrev last : List Row
  last = if_days p.end r.period.end aft

  start_of : (z w : Row) → z ≡ w → z.period.start ≡ w.period.start
  start_of z w e = ap (λ x. x.period.start) e

  is_part : (z : Row) → Has (first ++ (ms ++ last)) z → IsRow new z × PieceOf r z
  is_part z h = elim (has_cases first (ms ++ last) z h) [
    | inl g ↦ let i = days_has r.period.start p.start fore z g in let l = i.0 in subst (λ x. IsRow new x × PieceOf r x) (sym i.1) (before_row l, record { key = refl; from = omega arith; some = l; to = omega arith })
    | inr g ↦ elim (has_cases ms last z g) [
      | inl m ↦ let a = middle.each z m in let s = a.2 in let e = a.3 in (a.0, record { key = a.1; from = omega arith; some = omega arith; to = omega arith })
      | inr b ↦ let i = days_has p.end r.period.end aft z b in let l = i.0 in subst (λ x. IsRow new x × PieceOf r x) (sym i.1) (after_row l, record { key = refl; from = omega arith; some = l; to = omega arith })
    ]
  ]

  apart_parts : Apart (first ++ (ms ++ last))
  apart_parts = apart_append first (ms ++ last) (apart_days r.period.start p.start fore)
      (apart_append ms last middle.apart (apart_days p.end r.period.end aft) (λ z g h. let s = (middle.each z g).2 in let u = start_of z aft (days_has p.end r.period.end aft z h).1 in omega arith))
      (λ z g h. let i = days_has r.period.start p.start fore z g in let l = i.0 in let s = start_of z fore i.1 in elim (has_cases ms last z h) [
        | inl m ↦ let u = (middle.each z m).2 in omega arith
        | inr b ↦ let u = start_of z aft (days_has p.end r.period.end aft z b).1 in omega arith
      ])

  pub parts_cuts : f r ≡ first ++ (ms ++ last) → Cuts f new r
  parts_cuts e = record {
    each = λ z h. is_part z (subst (λ xs. Has xs z) e h);
    apart = subst (λ xs. Apart xs) (sym e) apart_parts;
    covers = λ d c x y h.
        let to : (z : Row) → Has (first ++ (ms ++ last)) z → Has (f r) z = λ z g. subst (λ xs. Has xs z) (sym e) g in
        elim (cases_lt d p.start) [
          | inl l ↦ (fore, to fore (has_left first (ms ++ last) fore (has_days r.period.start p.start fore (omega arith))), refl, x, l)
          | inr g ↦ elim (cases_lt d p.end) [
            | inl k ↦ let z = middle.covers d c x y g k h in let m = middle.each z.0 z.1 in let s = m.2 in let n = m.3 in (z.0, to z.0 (has_right first (ms ++ last) z.0 (has_left ms last z.0 z.1)), m.1, omega arith, omega arith)
            | inr k ↦ (aft, to aft (has_right first (ms ++ last) aft (has_right ms last aft (has_days p.end r.period.end aft (omega arith)))), refl, k, y)
          ]
        ];
  }

  pub parts_born : f r ≡ first ++ (ms ++ last) → (z : Row) → Has (f r) z → z.system_start ≡ t
  parts_born e z h = elim (has_cases first (ms ++ last) z (subst (λ xs. Has xs z) e h)) [
    | inl g ↦ ap (λ x. x.system_start) (days_has r.period.start p.start fore z g).1
    | inr g ↦ elim (has_cases ms last z g) [ inl m ↦ (middle.each z m).4 | inr b ↦ ap (λ x. x.system_start) (days_has p.end r.period.end aft z b).1 ]
  ]

-- a row of the new table is one of the old, or was born now
pub older_cut : (t : ℕ) (f : Row → List Row) (old new : Table) (rows : List Row) → Lists rows old → Lists (flat_map f rows) new → ((r z : Row) → Has rows r → Has (f r) z → (z ≡ r) ⊎ (z.system_start ≡ t)) → (z : Row) → IsRow new z → IsRow old z ⊎ (z.system_start ≡ t)
older_cut t f old new rows l m g z row =
    let o = flat_has f rows z (row_listed (flat_map f rows) new z m row) in
    elim (g o.0 z o.1 o.2) [ inl e ↦ inl (subst (λ x. IsRow old x) (sym e) (l.each o.0 o.1)) | inr b ↦ inr b ]
