-- DELETE of a portion, on days and on a list of rows.
use Rattle.std.specs.Option.{option_map_or}
use Rattle.std.proofs.Common.{◌≡◌, ℕ, ◌-◌, ◌<◌, ◌≤◌, ◌⊎◌, inl, inr, Bool, true, false, cond, not, ◌&&◌, List, [], Option, Some, None, option_map, is_some, refl, sym, ap, ◌∙◌, subst, arith, nat_lt}
use Rattle.std.proofs.lemmas.Bool.{cases_Bool, and_parts, and_from, and_left, and_right, lt-ltb, le-ltb, le-leb, lt-leb, ltb-true, cond-true, cond-false}
use Rattle.model.specs.declared.value.Value.{Value}
use Rattle.rowlaws.proofs.RowFacts.{InRow, both, row_at_is}
use Rattle.model.specs.Tables.{days, Period, Fact, Table, Row, IsRow, joined, inside}
use Rattle.model.specs.Statements.{deleted, is_met, meets}
use Rattle.rowlaws.specs.Rows.{Has, Lists}
use Rattle.rowlaws.specs.Cutting.{part, removed, removed_rows}
use Rattle.rowlaws.proofs.Recut.{Cuts, Middle, one_cuts, parts_cuts, parts_born, lists_cut, older_cut}

abbrev pub no_system_start : ℕ → Fact → Fact
no_system_start t c = record { values = c.values; system_start = t }

some_or : (m i : Bool) (o : Option Fact) (t : ℕ) → is_some (cond m (cond i None (option_map (no_system_start t) o)) o) ≡ (is_some o && not (m && i))
some_or true true None t = refl
some_or true true (Some c) t = refl
some_or true false None t = refl
some_or true false (Some c) t = refl
some_or false i None t = refl
some_or false i (Some c) t = refl

-- joined, if days d - 1 and d are left or not
apart_then : (l x y cut u v : Bool) → (l && x && y && not cut) ≡ false → (l && (x && u) && (y && v) && not cut) ≡ false
apart_then false x y cut u v h = refl
apart_then true false y cut u v h = refl
apart_then true true false cut u v h = and_left _ _ (and_right u false refl)
apart_then true true true true u v h = and_right _ false refl
apart_then true true true false u v h = absurd (both refl h)

module _ (passes : Row → Bool) (p : Period) (t : ℕ) (old : Table) where
  abbrev new : Table
  new = deleted passes p t old

  -- the day is not deleted
  abbrev left : List Value → ℕ → Bool
  left k d = not (is_met passes p old k d && inside p d)

  met_is : {r : Row} → IsRow old r → r.period.end ≤ days → (k : List Value) (d : ℕ) → InRow r k d → is_met passes p old k d ≡ meets passes p r
  unfolding is_met
  met_is {r} row short k d x = ap (λ (o : Option Row). option_map_or (meets passes p) o false) (row_at_is row short k d x)

  new_some : (k : List Value) (d : ℕ) → is_some (new.fact k d) ≡ (is_some (old.fact k d) && left k d)
  unfolding deleted
  new_some k d = some_or (is_met passes p old k d) (inside p d) (old.fact k d) t

  new_cut : (k : List Value) (d : ℕ) → new.is_cut k d ≡ old.is_cut k d
  unfolding deleted
  new_cut k d = refl

  new_keys : new.keys ≡ old.keys
  unfolding deleted
  new_keys = refl

  unmet_fact : (k : List Value) (d : ℕ) → is_met passes p old k d ≡ false → new.fact k d ≡ old.fact k d
  unfolding deleted
  unmet_fact k d m = rw m refl

  met_outside : (k : List Value) (d : ℕ) (c : Fact) → is_met passes p old k d ≡ true → inside p d ≡ false → old.fact k d ≡ Some c → new.fact k d ≡ Some (record { values = c.values; system_start = t })
  unfolding deleted
  met_outside k d c m i h = rw (m, i, h) refl

  met_inside : (k : List Value) (d : ℕ) → is_met passes p old k d ≡ true → inside p d ≡ true → is_some (new.fact k d) ≡ false
  unfolding deleted
  met_inside k d m i = rw (m, i) refl

  still_apart : (k : List Value) (d : ℕ) → joined old k d ≡ false → joined new k d ≡ false
  still_apart k d h = rw (new_some k d, new_some k (d - 1), new_cut k d) (apart_then (nat_lt 0 d) (is_some (old.fact k (d - 1))) (is_some (old.fact k d)) (old.is_cut k d) (left k (d - 1)) (left k d) h)

  -- nothing of these two days is deleted
  still_joined : (k : List Value) (d : ℕ) → left k (d - 1) ≡ true → left k d ≡ true → joined new k d ≡ joined old k d
  still_joined k d a b = rw (new_some k d, new_some k (d - 1), new_cut k d) (rw (a, b) (by (nat_lt 0 d) (is_some (old.fact k (d - 1))) (is_some (old.fact k d)) (old.is_cut k d)))
    where
      by : (l x y cut : Bool) → (l && (x && true) && (y && true) && not cut) ≡ (l && x && y && not cut)
      by false x y cut = refl
      by true false y cut = refl
      by true true false cut = refl
      by true true true cut = refl

  gap_here : (k : List Value) (d : ℕ) → is_some (new.fact k d) ≡ false → joined new k d ≡ false
  gap_here k d h = rw h (and_left _ _ (and_right _ false refl))

  gap_before : (k : List Value) (d : ℕ) → is_some (new.fact k (d - 1)) ≡ false → joined new k d ≡ false
  gap_before k d h = rw h (and_left _ _ (and_left _ _ (and_right _ false refl)))

  from_old : (k : List Value) (d : ℕ) (c : Fact) → new.fact k d ≡ Some c → is_some (old.fact k d) ≡ true
  from_old k d c h = (and_parts _ _ (sym (new_some k d) ∙ ap is_some h)).0

  outside : (d : ℕ) → (d < p.start) ⊎ (p.end ≤ d) → inside p d ≡ false
  outside d (inl l) = and_left _ _ (lt-leb p.start d l)
  outside d (inr g) = and_right _ _ (le-ltb d p.end g)

  module _ (le : p.start < p.end) {r : Row} (row : IsRow old r) (short : r.period.end ≤ days) where
    in_row : (d : ℕ) → r.period.start ≤ d → d < r.period.end → InRow r r.key d
    in_row d a b = record { key = refl; from = a; before = b }

    unmet_left : (k : List Value) (d : ℕ) → is_met passes p old k d ≡ false → left k d ≡ true
    unmet_left k d m = rw m refl

    unmet_row : meets passes p r ≡ false → IsRow new r
    unmet_row m =
        let no : (d : ℕ) → r.period.start ≤ d → d < r.period.end → is_met passes p old r.key d ≡ false = λ d a b. met_is row short r.key d (in_row d a b) ∙ m in
        record {
          some = row.some;
          filled = λ d a b. unmet_fact r.key d (no d a b) ∙ row.filled d a b;
          whole = λ d a b. still_joined r.key d (unmet_left r.key (d - 1) (no (d - 1) (omega arith) (omega arith))) (unmet_left r.key d (no d (omega arith) b)) ∙ row.whole d a b;
          first = still_apart r.key r.period.start row.first;
          last = still_apart r.key r.period.end row.last;
        }

    module _ (m : meets passes p r ≡ true) where
      met_at : (d : ℕ) → r.period.start ≤ d → d < r.period.end → is_met passes p old r.key d ≡ true
      met_at d a b = met_is row short r.key d (in_row d a b) ∙ m

      overlap : (r.period.start < p.end) × (p.start < r.period.end)
      overlap = let ps = and_parts _ _ m in let qs = and_parts _ _ ps.0 in (ltb-true _ _ qs.1, ltb-true _ _ ps.1)

      out_left : (d : ℕ) → inside p d ≡ false → left r.key d ≡ true
      out_left d i = rw i (rw (and_right (is_met passes p old r.key d) false refl) refl)

      piece_row : (s e : ℕ) → s < e → r.period.start ≤ s → e ≤ r.period.end → joined new r.key s ≡ false → joined new r.key e ≡ false → ((d : ℕ) → s ≤ d → d < e → inside p d ≡ false) → IsRow new (part r s e r.values t)
      piece_row s e some from to first last out = record {
        some = some;
        filled = λ d a b. met_outside r.key d (record { values = r.values; system_start = r.system_start }) (met_at d (omega arith) (omega arith)) (out d a b) (row.filled d (omega arith) (omega arith));
        whole = λ d a b. still_joined r.key d (out_left (d - 1) (out (d - 1) (omega arith) (omega arith))) (out_left d (out d (omega arith) b)) ∙ row.whole d (omega arith) (omega arith);
        first = first;
        last = last;
      }

      before_row : r.period.start < p.start → IsRow new (part r r.period.start p.start r.values t)
      before_row l =
          let o = overlap.1 in
          let edge : inside p p.start ≡ true = and_from _ _ (le-leb p.start p.start (omega arith)) (lt-ltb p.start p.end le) in
          piece_row r.period.start p.start l (omega arith) (omega arith) (still_apart r.key r.period.start row.first) (gap_here r.key p.start (met_inside r.key p.start (met_at p.start (omega arith) o) edge)) (λ d a b. outside d (inl b))

      after_row : p.end < r.period.end → IsRow new (part r p.end r.period.end r.values t)
      after_row l =
          let o = overlap.0 in
          let edge : inside p (p.end - 1) ≡ true = and_from _ _ (le-leb p.start (p.end - 1) (omega arith)) (lt-ltb (p.end - 1) p.end (omega arith)) in
          piece_row p.end r.period.end l (omega arith) (omega arith) (gap_before r.key p.end (met_inside r.key (p.end - 1) (met_at (p.end - 1) (omega arith) (omega arith)) edge)) (still_apart r.key r.period.end row.last) (λ d a b. outside d (inr a))

      middle : Middle p t new r []
      middle = record {
        each = λ z h. absurd h;
        apart = tt;
        covers = λ d c a b x y h. absurd (both (ap is_some h) (met_inside r.key d (met_at d a b) (and_from _ _ (le-leb p.start d x) (lt-ltb d p.end y))));
      }

    pub removed_cuts : Cuts (removed passes p t) new r
    removed_cuts = elim (cases_Bool (meets passes p r)) [
      | inl m ↦ let o = overlap m in parts_cuts (removed passes p t) new p t r [] le row.some o.0 o.1 (middle m) (before_row m) (after_row m) (cond-true _ _ _ m)
      | inr n ↦ one_cuts (removed passes p t) new r (cond-false _ _ _ n) (unmet_row n)
    ]

    removed_born : (z : Row) → Has (removed passes p t r) z → (z ≡ r) ⊎ (z.system_start ≡ t)
    removed_born z h = elim (cases_Bool (meets passes p r)) [
      | inl m ↦ let o = overlap m in inr (parts_born (removed passes p t) new p t r [] le row.some o.0 o.1 (middle m) (before_row m) (after_row m) (cond-true _ _ _ m) z h)
      | inr n ↦ elim (subst (λ xs. Has xs z) (cond-false _ _ _ n) h) [ inl e ↦ inl e | inr x ↦ absurd x ]
    ]

  pub lists_deleted : p.start < p.end → (rows : List Row) → Lists rows old → Lists (removed_rows passes p t rows) new
  unfolding removed_rows
  lists_deleted le rows l = lists_cut (removed passes p t) old new new_keys from_old rows l (λ r h. removed_cuts le (l.each r h) (l.within r h))

  pub older_deleted : p.start < p.end → (rows : List Row) → Lists rows old → (z : Row) → IsRow new z → IsRow old z ⊎ (z.system_start ≡ t)
  unfolding removed_rows
  older_deleted le rows l = older_cut t (removed passes p t) old new rows l (lists_deleted le rows l) (λ r z h g. removed_born le (l.each r h) (l.within r h) z g)
