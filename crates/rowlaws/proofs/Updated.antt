-- UPDATE of a portion, on days and on a list of rows.
use Rattle.std.specs.Option.{option_map_or}
use Rattle.std.proofs.Common.{◌≡◌, ℕ, ◌-◌, ◌<◌, ◌≤◌, ◌⊎◌, inl, inr, Bool, true, false, cond, not, ◌&&◌, ◌||◌, List, [], ◌∷◌, Option, Some, None, option_map, unwrap_or, is_some, refl, sym, ap, ◌∙◌, subst, arith, nat_lt, min, max}
use Rattle.std.proofs.lemmas.Bool.{cases_lt, cases_Bool, and_parts, and_from, and_left, and_right, or_left, or_right, lt-ltb, le-ltb, le-leb, lt-leb, ltb-true, eq-eqb, ne_eqb, cond-true, cond-false}
use Rattle.model.specs.declared.value.Value.{Value}
use Rattle.rowlaws.proofs.RowFacts.{InRow, row_at_is}
use Rattle.model.specs.Tables.{days, Period, Fact, Table, Row, IsRow, joined, inside}
use Rattle.model.specs.Statements.{updated, is_met, is_edge, meets}
use Rattle.rowlaws.specs.Rows.{Has, Lists}
use Rattle.rowlaws.specs.Cutting.{part, cut, cut_rows}
use Rattle.rowlaws.proofs.Recut.{Cuts, Middle, one_cuts, parts_cuts, parts_born, lists_cut, older_cut}

joins : (l x y cut edge met : Bool) → (l && x && y && not (cut || (edge && (l && x && y && not cut) && met))) ≡ ((l && x && y && not cut) && not (edge && met))
joins false x y cut edge met = refl
joins true false y cut edge met = refl
joins true true false cut edge met = refl
joins true true true true edge met = refl
joins true true true false false met = refl
joins true true true false true true = refl
joins true true true false true false = refl

some_map : {A B : Type 0} (f : A → B) (o : Option A) → is_some (option_map f o) ≡ is_some o
some_map f None = refl
some_map f (Some x) = refl

module _ (passes : Row → Bool) (p : Period) (set : List Value → Option (List Value)) (t : ℕ) (old : Table) where
  abbrev new : Table
  new = updated passes p set t old

  met : List Value → ℕ → Bool
  met k d = is_met passes p old k d

  met_is : {r : Row} → IsRow old r → r.period.end ≤ days → (k : List Value) (d : ℕ) → InRow r k d → is_met passes p old k d ≡ meets passes p r
  unfolding is_met
  met_is {r} row short k d x = ap (λ (o : Option Row). option_map_or (meets passes p) o false) (row_at_is row short k d x)

  new_some : (k : List Value) (d : ℕ) → is_some (new.fact k d) ≡ is_some (old.fact k d)
  unfolding updated
  new_some k d = by (is_met passes p old k d)
    where
      by : (b : Bool) → is_some (cond b (option_map (λ (c : Fact). let u : Fact = record { values = cond (inside p d) (unwrap_or (set c.values) c.values) c.values; system_start = t } in u) (old.fact k d)) (old.fact k d)) ≡ is_some (old.fact k d)
      by true = some_map _ (old.fact k d)
      by false = refl

  new_cut : (k : List Value) (d : ℕ) → new.is_cut k d ≡ (old.is_cut k d || (is_edge p d && joined old k d && is_met passes p old k d))
  unfolding updated
  new_cut k d = refl

  new_joined : (k : List Value) (d : ℕ) → joined new k d ≡ (joined old k d && not (is_edge p d && is_met passes p old k d))
  new_joined k d = rw (new_some k d, new_some k (d - 1), new_cut k d) (joins (nat_lt 0 d) (is_some (old.fact k (d - 1))) (is_some (old.fact k d)) (old.is_cut k d) (is_edge p d) (is_met passes p old k d))

  still_apart : (k : List Value) (d : ℕ) → joined old k d ≡ false → joined new k d ≡ false
  still_apart k d h = new_joined k d ∙ and_left _ _ h

  cut_here : (k : List Value) (d : ℕ) → is_edge p d ≡ true → is_met passes p old k d ≡ true → joined new k d ≡ false
  cut_here k d e m = new_joined k d ∙ rw (e, m) (and_right (joined old k d) false refl)

  no_edge : (k : List Value) (d : ℕ) → is_edge p d ≡ false → joined new k d ≡ joined old k d
  no_edge k d e = new_joined k d ∙ rw e (and_true (joined old k d))
    where
      and_true : (b : Bool) → (b && true) ≡ b
      and_true true = refl
      and_true false = refl

  not_met : (k : List Value) (d : ℕ) → is_met passes p old k d ≡ false → joined new k d ≡ joined old k d
  not_met k d m = new_joined k d ∙ rw m (rw (and_right (is_edge p d) false refl) (and_true (joined old k d)))
    where
      and_true : (b : Bool) → (b && true) ≡ b
      and_true true = refl
      and_true false = refl

  unmet_fact : (k : List Value) (d : ℕ) → is_met passes p old k d ≡ false → new.fact k d ≡ old.fact k d
  unfolding updated
  unmet_fact k d m = rw m refl

  met_inside : (k : List Value) (d : ℕ) (c : Fact) → is_met passes p old k d ≡ true → inside p d ≡ true → old.fact k d ≡ Some c → new.fact k d ≡ Some (record { values = unwrap_or (set c.values) c.values; system_start = t })
  unfolding updated
  met_inside k d c m i h = rw (m, i, h) refl

  met_outside : (k : List Value) (d : ℕ) (c : Fact) → is_met passes p old k d ≡ true → inside p d ≡ false → old.fact k d ≡ Some c → new.fact k d ≡ Some (record { values = c.values; system_start = t })
  unfolding updated
  met_outside k d c m i h = rw (m, i, h) refl

  module _ {r : Row} (row : IsRow old r) (short : r.period.end ≤ days) where
    in_row : (d : ℕ) → r.period.start ≤ d → d < r.period.end → InRow r r.key d
    in_row d a b = record { key = refl; from = a; before = b }

    unmet_row : meets passes p r ≡ false → IsRow new r
    unmet_row m = record {
      some = row.some;
      filled = λ d a b. unmet_fact r.key d (met_is row short r.key d (in_row d a b) ∙ m) ∙ row.filled d a b;
      whole = λ d a b. not_met r.key d (met_is row short r.key d (in_row d (omega arith) b) ∙ m) ∙ row.whole d a b;
      first = still_apart r.key r.period.start row.first;
      last = still_apart r.key r.period.end row.last;
    }

    piece_row : meets passes p r ≡ true → (s e : ℕ) (v : List Value) → s < e → r.period.start ≤ s → e ≤ r.period.end → (s ≡ r.period.start) ⊎ (is_edge p s ≡ true) → (e ≡ r.period.end) ⊎ (is_edge p e ≡ true)
        → ((d : ℕ) → s < d → d < e → is_edge p d ≡ false) → ((d : ℕ) → s ≤ d → d < e → new.fact r.key d ≡ Some (record { values = v; system_start = t })) → IsRow new (part r s e v t)
    piece_row m s e v some from to left right clean cells = record {
      some = some;
      filled = cells;
      whole = λ d a b. no_edge r.key d (clean d a b) ∙ row.whole d (omega arith) (omega arith);
      first = elim left [ inl q ↦ still_apart r.key s (subst (λ x. joined old r.key x ≡ false) (sym q) row.first) | inr q ↦ cut_here r.key s q (met_is row short r.key s (in_row s from (omega arith)) ∙ m) ];
      last = elim right [
        | inl q ↦ still_apart r.key e (subst (λ x. joined old r.key x ≡ false) (sym q) row.last)
        | inr q ↦ elim (cases_lt e r.period.end) [
          | inl l ↦ cut_here r.key e q (met_is row short r.key e (in_row e (omega arith) l) ∙ m)
          | inr g ↦ still_apart r.key e (let same : e ≡ r.period.end = omega arith in subst (λ x. joined old r.key x ≡ false) (sym same) row.last)
        ]
      ];
    }

    outside : (d : ℕ) → (d < p.start) ⊎ (p.end ≤ d) → inside p d ≡ false
    outside d (inl l) = and_left _ _ (lt-leb p.start d l)
    outside d (inr g) = and_right _ _ (le-ltb d p.end g)

    plain : (d : ℕ) → (d ≡ p.start → ⊥) → (d ≡ p.end → ⊥) → is_edge p d ≡ false
    plain d f g = rw (ne_eqb d p.start f, ne_eqb d p.end g) refl

    edge_start : is_edge p p.start ≡ true
    edge_start = or_left _ _ (eq-eqb p.start p.start refl)

    edge_end : is_edge p p.end ≡ true
    edge_end = or_right _ _ (eq-eqb p.end p.end refl)

    module _ (le : p.start < p.end) (m : meets passes p r ≡ true) where
      met_at : (d : ℕ) → r.period.start ≤ d → d < r.period.end → is_met passes p old r.key d ≡ true
      met_at d a b = met_is row short r.key d (in_row d a b) ∙ m

      left_out : (d : ℕ) → r.period.start ≤ d → d < r.period.end → (d < p.start) ⊎ (p.end ≤ d) → new.fact r.key d ≡ Some (record { values = r.values; system_start = t })
      left_out d a b o = met_outside r.key d (record { values = r.values; system_start = r.system_start }) (met_at d a b) (outside d o) (row.filled d a b)

      overlap : (r.period.start < p.end) × (p.start < r.period.end)
      overlap = let ps = and_parts _ _ m in let qs = and_parts _ _ ps.0 in (ltb-true _ _ qs.1, ltb-true _ _ ps.1)

      before_row : r.period.start < p.start → IsRow new (part r r.period.start p.start r.values t)
      before_row l = let o = overlap.1 in piece_row m r.period.start p.start r.values l (omega arith) (omega arith) (inl refl) (inr edge_start) (λ d a b. plain d (λ q. omega arith) (λ q. omega arith)) (λ d a b. left_out d a (omega arith) (inl b))

      after_row : p.end < r.period.end → IsRow new (part r p.end r.period.end r.values t)
      after_row l = let o = overlap.0 in piece_row m p.end r.period.end r.values l (omega arith) (omega arith) (inr edge_end) (inl refl) (λ d a b. plain d (λ q. omega arith) (λ q. omega arith)) (λ d a b. left_out d (omega arith) b (inr a))

      within_row : IsRow new (part r (max r.period.start p.start) (min r.period.end p.end) (unwrap_or (set r.values) r.values) t)
      within_row =
          let some = row.some in
          let o = overlap.0 in
          let q = overlap.1 in
          piece_row m (max r.period.start p.start) (min r.period.end p.end) _ (omega arith) (omega arith) (omega arith)
          (elim (cases_lt r.period.start p.start) [ inl l ↦ let e : max r.period.start p.start ≡ p.start = omega arith in inr (ap (is_edge p) e ∙ edge_start) | inr g ↦ inl (omega arith) ])
          (elim (cases_lt p.end r.period.end) [ inl l ↦ let e : min r.period.end p.end ≡ p.end = omega arith in inr (ap (is_edge p) e ∙ edge_end) | inr g ↦ inl (omega arith) ])
          (λ d a b. plain d (λ x. omega arith) (λ x. omega arith))
          (λ d a b. met_inside r.key d (record { values = r.values; system_start = r.system_start }) (met_at d (omega arith) (omega arith)) (and_from _ _ (le-leb p.start d (omega arith)) (lt-ltb d p.end (omega arith))) (row.filled d (omega arith) (omega arith)))

  -- ---- the list of rows

  module _ (le : p.start < p.end) {r : Row} (row : IsRow old r) (short : r.period.end ≤ days) where
    mid : Row
    mid = part r (max r.period.start p.start) (min r.period.end p.end) (unwrap_or (set r.values) r.values) t

    middle : meets passes p r ≡ true → Middle p t new r (mid ∷ [])
    unfolding mid
    middle m = record {
      each = λ z h. elim h [ inl e ↦ subst (λ x. IsRow new x × (x.key ≡ r.key) × (x.period.start ≡ max r.period.start p.start) × (x.period.end ≡ min r.period.end p.end) × (x.system_start ≡ t)) (sym e) (within_row row short le m, refl, refl, refl, refl) | inr n ↦ absurd n ];
      apart = ((λ x. x), tt);
      covers = λ d c a b x y h. (mid, inl refl);
    }

    pub cut_cuts : Cuts (cut passes p set t) new r
    unfolding mid
    cut_cuts = elim (cases_Bool (meets passes p r)) [
      | inl m ↦ let o = overlap row short le m in parts_cuts (cut passes p set t) new p t r (mid ∷ []) le row.some o.0 o.1 (middle m) (before_row row short le m) (after_row row short le m) (cond-true _ _ _ m)
      | inr n ↦ one_cuts (cut passes p set t) new r (cond-false _ _ _ n) (unmet_row row short n)
    ]

    cut_born : (z : Row) → Has (cut passes p set t r) z → (z ≡ r) ⊎ (z.system_start ≡ t)
    unfolding mid
    cut_born z h = elim (cases_Bool (meets passes p r)) [
      | inl m ↦ let o = overlap row short le m in inr (parts_born (cut passes p set t) new p t r (mid ∷ []) le row.some o.0 o.1 (middle m) (before_row row short le m) (after_row row short le m) (cond-true _ _ _ m) z h)
      | inr n ↦ elim (subst (λ xs. Has xs z) (cond-false _ _ _ n) h) [ inl e ↦ inl e | inr x ↦ absurd x ]
    ]

  new_keys : new.keys ≡ old.keys
  unfolding updated
  new_keys = refl

  pub lists_updated : p.start < p.end → (rows : List Row) → Lists rows old → Lists (cut_rows passes p set t rows) new
  unfolding cut_rows
  lists_updated le rows l = lists_cut (cut passes p set t) old new new_keys (λ k d c h. sym (new_some k d) ∙ ap is_some h) rows l (λ r h. cut_cuts le (l.each r h) (l.within r h))

  pub older_updated : p.start < p.end → (rows : List Row) → Lists rows old → (z : Row) → IsRow new z → IsRow old z ⊎ (z.system_start ≡ t)
  unfolding cut_rows
  older_updated le rows l = older_cut t (cut passes p set t) old new rows l (lists_updated le rows l) (λ r z h g. cut_born le (l.each r h) (l.within r h) z g)
