-- INSERT adds one row to the rows of a table.
use Rattle.std.proofs.Common.{◌≡◌, ℕ, zero, suc, ◌+◌, ◌-◌, ◌<◌, ◌≤◌, ◌⊎◌, inl, inr, Bool, true, false, ◌||◌, List, Some, is_some, refl, sym, ap, ◌∙◌, subst, arith, nat_le, ◌==◌}
use Rattle.std.specs.List.{list_any, range_with_len}
use Rattle.std.proofs.lemmas.Bool.{cases_lt, cases_Bool, cases_order, and_left, and_right, or_right, le-leb, lt-ltb, le-ltb, lt-leb, eq-eqb, ne_eqb}
use Rattle.model.specs.declared.value.Value.{Value}
use Rattle.model.specs.Values.{same_key}
use Rattle.model.specs.Tables.{Period, Table, Row, IsRow, joined, inside}
use Rattle.model.specs.Statements.{inserted, insert_overlaps, with_key}
use Rattle.rowlaws.proofs.Keys.{same_key-true, same_key-itself}
use Rattle.rowlaws.proofs.RowFacts.{both}

-- a day that passes no test of a range
pub any_in_range : (f : ℕ → Bool) (a n d : ℕ) → list_any f (range_with_len a n) ≡ false → a ≤ d → d < a + n → f d ≡ false
any_in_range f a zero d h l g = absurd (omega arith)
any_in_range f a (suc n) d h l g =
    let parts : (f a ≡ false) × (list_any f (range_with_len (a + 1) n) ≡ false) = (and_or (f a) _ h) in
    elim (cases_order a d) [
      | inl e ↦ subst (λ x. f x ≡ false) e parts.0
      | inr o ↦ elim o [ inl b ↦ any_in_range f (a + 1) n d parts.1 (omega arith) (omega arith) | inr b ↦ absurd (omega arith) ]
    ]
  where
    and_or : (x y : Bool) → (x || y) ≡ false → (x ≡ false) × (y ≡ false)
    and_or false false e = (refl, refl)
    and_or true y e = cc
    and_or false true e = cc

module _ (key values : List Value) (p : Period) (t : ℕ) (old : Table) where
  abbrev pub new : Table
  new = inserted key values p t old

  abbrev pub fresh : Row
  fresh = record { key = key; period = p; values = values; system_start = t }

  pub new_keys : new.keys ≡ with_key key old.keys
  unfolding inserted
  new_keys = refl

  pub other_fact : (k : List Value) (d : ℕ) → same_key k key ≡ false → new.fact k d ≡ old.fact k d
  unfolding inserted
  other_fact k d h = rw h refl

  other_joined : (k : List Value) (d : ℕ) → same_key k key ≡ false → joined new k d ≡ joined old k d
  unfolding inserted
  other_joined k d h = rw h refl

  pub outside_fact : (d : ℕ) → inside p d ≡ false → new.fact key d ≡ old.fact key d
  unfolding inserted
  outside_fact d h = rw (same_key-itself key, h) refl

  inside_fact : (d : ℕ) → p.start ≤ d → d < p.end → new.fact key d ≡ Some (record { values = values; system_start = t })
  unfolding inserted
  inside_fact d h g = rw (same_key-itself key, le-leb p.start d h, lt-ltb d p.end g) refl

  outside_joined : (d : ℕ) → (d < p.start) ⊎ (p.end < d) → joined new key d ≡ joined old key d
  unfolding inserted
  outside_joined d (inl h) = rw (same_key-itself key, lt-leb p.start d h, lt-leb p.start (d - 1) (omega arith)) refl
  outside_joined d (inr h) = rw (same_key-itself key, le-ltb d p.end (omega arith), le-ltb (d - 1) p.end (omega arith), lt-leb d p.end h, and_right (nat_le p.start d) false refl, and_right (nat_le p.start (d - 1)) false refl) refl

  edge_joined : p.start ≤ p.end → (d : ℕ) → (d ≡ p.start) ⊎ (d ≡ p.end) → joined new key d ≡ false
  unfolding inserted
  edge_joined le d (inl h) = rw (same_key-itself key, eq-eqb d p.start h, le-leb p.start d (omega arith), le-leb d p.end (omega arith)) (and_right _ false refl)
  edge_joined le d (inr h) = rw (same_key-itself key, eq-eqb d p.end h, le-leb p.start d (omega arith), le-leb d p.end (omega arith)) (rw (or_right (d == p.start) true refl) (and_right _ false refl))

  inner_joined : (d : ℕ) → p.start < d → d < p.end → joined new key d ≡ true
  unfolding inserted
  inner_joined d h g = rw (same_key-itself key, le-leb p.start d (omega arith), lt-ltb d p.end g, le-leb d p.end (omega arith), le-leb p.start (d - 1) (omega arith), lt-ltb (d - 1) p.end (omega arith), lt-ltb 0 d (omega arith), ne_eqb d p.start (λ e. omega arith), ne_eqb d p.end (λ e. omega arith)) refl

  module _ (le : p.start < p.end) (clear : insert_overlaps key p old ≡ false) where
    pub empty_in : (d : ℕ) → p.start ≤ d → d < p.end → is_some (old.fact key d) ≡ false
    unfolding insert_overlaps
    empty_in d h g = any_in_range (λ x. is_some (old.fact key x)) p.start (p.end - p.start) d clear h (omega arith)

    -- a row of the old table has no day of the period
    pub apart_from : {r : Row} → IsRow old r → r.key ≡ key → (d : ℕ) → p.start ≤ d → d < p.end → r.period.start ≤ d → d < r.period.end → ⊥
    apart_from {r} row e d a b x y = both (ap is_some (subst (λ k. old.fact k d ≡ Some (record { values = r.values; system_start = r.system_start })) e (row.filled d x y))) (empty_in d a b)

    stays_same : {r : Row} → IsRow old r → r.key ≡ key → IsRow new r
    stays_same {r} row e =
        let some = row.some in
        let out : (d : ℕ) → r.period.start ≤ d → d < r.period.end → (d < p.start) ⊎ (p.end ≤ d) = λ d a b. elim (cases_lt d p.start) [ inl l ↦ inl l | inr g ↦ elim (cases_lt d p.end) [ inl m ↦ absurd (apart_from row e d g m a b) | inr m ↦ inr m ] ] in
        let test : (d : ℕ) → (d < p.start) ⊎ (p.end ≤ d) → inside p d ≡ false = λ d o. elim o [ inl l ↦ and_left _ _ (lt-leb p.start d l) | inr l ↦ and_right _ _ (le-ltb d p.end l) ] in
        let filled : (d : ℕ) → r.period.start ≤ d → d < r.period.end → new.fact key d ≡ Some (record { values = r.values; system_start = r.system_start }) = λ d a b. outside_fact d (test d (out d a b)) ∙ subst (λ k. old.fact k d ≡ Some (record { values = r.values; system_start = r.system_start })) e (row.filled d a b) in
        let whole : (d : ℕ) → r.period.start < d → d < r.period.end → joined new key d ≡ true = λ d a b. outside_joined d (elim (out d (omega arith) b) [ inl l ↦ inl l | inr l ↦ elim (out (d - 1) (omega arith) (omega arith)) [ inl m ↦ absurd (omega arith) | inr m ↦ inr (omega arith) ] ]) ∙ subst (λ k. joined old k d ≡ true) e (row.whole d a b) in
        let end : (d : ℕ) → joined old key d ≡ false → (d ≤ p.start) ⊎ (p.end ≤ d) → joined new key d ≡ false = λ d h o. elim o [
          | inl l ↦ elim (cases_lt d p.start) [ inl m ↦ outside_joined d (inl m) ∙ h | inr m ↦ edge_joined (omega arith) d (inl (omega arith)) ]
          | inr l ↦ elim (cases_lt p.end d) [ inl m ↦ outside_joined d (inr m) ∙ h | inr m ↦ edge_joined (omega arith) d (inr (omega arith)) ]
        ] in
        subst (λ k. IsRow new (record r { key = k })) (sym e) (record {
          some = row.some;
          filled = filled;
          whole = whole;
          first = end r.period.start (subst (λ k. joined old k r.period.start ≡ false) e row.first) (elim (out r.period.start (omega arith) some) [ inl l ↦ inl (omega arith) | inr l ↦ inr l ]);
          last = end r.period.end (subst (λ k. joined old k r.period.end ≡ false) e row.last) (elim (out (r.period.end - 1) (omega arith) (omega arith)) [ inl l ↦ inl (omega arith) | inr l ↦ inr (omega arith) ]);
        })

    stays_other : {r : Row} → IsRow old r → same_key r.key key ≡ false → IsRow new r
    stays_other {r} row n = record {
      some = row.some;
      filled = λ d a b. other_fact r.key d n ∙ row.filled d a b;
      whole = λ d a b. other_joined r.key d n ∙ row.whole d a b;
      first = other_joined r.key r.period.start n ∙ row.first;
      last = other_joined r.key r.period.end n ∙ row.last;
    }

    pub stays : {r : Row} → IsRow old r → IsRow new r
    stays {r} row = elim (cases_Bool (same_key r.key key)) [ inl y ↦ stays_same row (same_key-true r.key key y) | inr n ↦ stays_other row n ]

    pub comes : IsRow new fresh
    comes = record { some = le; filled = inside_fact; whole = inner_joined; first = edge_joined (omega arith) p.start (inl refl); last = edge_joined (omega arith) p.end (inr refl) }
