-- A key's rows after UPDATE or DELETE, of which those that share a day with the portion were found.
use Rattle.std.proofs.Common.{◌≡◌, ℕ, ◌+◌, ◌-◌, ◌<◌, ◌≤◌, ◌||◌, ◌⊎◌, Bool, true, false, List, [], ◌∷◌, ◌++◌, map, flat_map, length, Option, Some, None, refl, sym, ap, ◌∙◌, subst, inl, inr, arith, Bor}
use Rattle.std.proofs.lemmas.Bool.{cases_Bool, and_parts, lt-ltb, ltb-true}
use Rattle.std.proofs.lemmas.List.{length-append, length-map, append-nil}
use Rattle.std.proofs.lemmas.List.Folds.{list_any-append}
use Rattle.std.proofs.lemmas.Grind.{flat_map-append}
use Rattle.std.proofs.Math.Seq.{take-append_seam, drop-append_seam, drop-append-add}
use Rattle.std.specs.BTreeMap.{IsOrdered, get}
use Rattle.std.specs.List.{list_any, splice}
use Rattle.std.specs.Prelude.{drop, Result, Ok, Err, IfErr}
use Rattle.model.specs.declared.value.Value.{Value}
use Rattle.model.specs.Values.{key_cmp, same_key}
use Rattle.model.specs.Tables.{Row}
use Rattle.model.specs.Periods.{period_of}
use Rattle.model.specs.Transactions.{Action}
use Rattle.period.specs.declared.period.Period.{Period as DeclaredPeriod}
use Rattle.overlaps.specs.Index.{AreApart, AreSharing, shares_day, changed_at}
use Rattle.overlaps.specs.Items.{items_of}
use Rattle.rowlaws.specs.Rows.{Has}
use Rattle.rowlaws.proofs.Keys.{same_key-true}
use Rattle.rowlaws.proofs.RowFacts.{both}
use Rattle.sqlchecks.specs.declared.comparison.Comparison.{Comparison}
use Rattle.sqlread.specs.declared.statement.Assignment.{Assignment}
use Rattle.current.specs.declared.correction.Correction.{Correction}
use Rattle.current.specs.declared.row.Row.{Row as Declared}
use Rattle.current.specs.Rows.{row_of}
use Rattle.current.specs.Corrections.{is_met, is_stuck, kept, removed_at, added_at, correction_action, action_of_correction}
use Rattle.current.specs.ByKey.{Map, strands_of, rows_in, in_strand}
use Rattle.current.specs.Table.{IsCorrectionRefused}
use Rattle.fault.specs.declared.refusal.Refusal.{Refusal}
use Rattle.fault.specs.declared.refusal.Refusal.TheVariants.{NoMemory, NumberRange}
use Rattle.current.proofs.Cutting.{Unmet, unmet, parts_or}
use Rattle.current.proofs.InStrand.{correction_in_strand}
use Rattle.current.proofs.Moves.{with_here, with_other}
use Rattle.current.proofs.Naming.{removed_strand, added_strand, stuck_strand, short_strand, long_strand, strand_stays}
use Rattle.current.proofs.OfKey.{turned}
use Rattle.current.proofs.Placed.{days_of_row, Sharing, strand_items, changed_strands, apart_in_strand}
use Rattle.current.proofs.TableCorrection.{correction_portion}

-- ---- a row that shares no day with the portion is not met

apart_unmet : (conditions : List Comparison) (p : DeclaredPeriod) (assignments : Option (Bor (List Assignment))) (r : Row) → (r.period.start < p.end.number → p.start.number < r.period.end → ⊥) → is_met (correction_action conditions (period_of p) assignments) r ≡ false
apart_unmet conditions p assignments r apart = elim (cases_Bool (is_met (correction_action conditions (period_of p) assignments) r)) [
  | inr n ↦ n
  | inl y ↦ absurd (of assignments y)
]
  where
    of : (a : Option (Bor (List Assignment))) → is_met (correction_action conditions (period_of p) a) r ≡ true → ⊥
    of None y = let ps = and_parts _ _ y in let qs = and_parts _ _ ps.0 in apart (ltb-true _ _ qs.1) (ltb-true _ _ ps.1)
    of (Some a) y = let ps = and_parts _ _ y in let qs = and_parts _ _ ps.0 in apart (ltb-true _ _ qs.1) (ltb-true _ _ ps.1)

unmet_apart : Sharing → (correction : Correction) (r : Declared) → shares_day (period_of correction.portion) (days_of_row r) ≡ false → is_met (action_of_correction correction) (row_of r) ≡ false
unmet_apart law correction r h = apart_unmet correction.conditions.now correction.portion correction.assignments (row_of r) (λ a b.
    let some : (days_of_row r).start < (days_of_row r).end = r.period.ordered in
    let full : (period_of correction.portion).start < (period_of correction.portion).end = correction.portion.ordered in
    let yes : shares_day (period_of correction.portion) (days_of_row r) ≡ true = law (period_of correction.portion) (days_of_row r) full some ∙ rw (lt-ltb r.period.start.number correction.portion.end.number a, lt-ltb correction.portion.start.number r.period.end.number b) refl in
    both yes h)

none_met : Sharing → (correction : Correction) (rows : List Declared) → list_any (λ r. shares_day (period_of correction.portion) (days_of_row r)) rows ≡ false → list_any (λ r. is_met (action_of_correction correction) (row_of r)) rows ≡ false
none_met law correction [] h = refl
none_met law correction (r ∷ rows) h = let p = parts_or _ _ h in rw (unmet_apart law correction r p.0) (none_met law correction rows p.1)

-- ---- a strand of which a stretch is cut

pub map_append : {A B : Type 0} (f : A → B) (xs ys : List A) → map f (xs ++ ys) ≡ map f xs ++ map f ys
map_append f [] ys = refl
map_append f (x ∷ xs) ys = ap (λ zs. f x ∷ zs) (map_append f xs ys)

pub spliced : {A : Type 0} (before found after rows : List A) → splice (before ++ (found ++ after)) (length before) (length before + length found) rows ≡ before ++ (rows ++ after)
spliced before found after rows =
    ap (λ xs. xs ++ (rows ++ drop (length before + length found) (before ++ (found ++ after)))) (take-append_seam before (found ++ after))
    ∙ ap (λ xs. before ++ (rows ++ xs)) (drop-append-add before (found ++ after) (length found) ∙ drop-append_seam found after)

module _ (c : Action) (t : ℕ) (before found after : List Declared) (u : Unmet c t (map row_of before)) (v : Unmet c t (map row_of after)) where
  abbrev items : List Declared
  items = before ++ (found ++ after)

  strand_parts : map row_of items ≡ map row_of before ++ (map row_of found ++ map row_of after)
  strand_parts = map_append row_of before (found ++ after) ∙ ap (λ rs. map row_of before ++ rs) (map_append row_of found after)

  flat_parts : {B : Type 0} (g : Row → List B) → flat_map g (map row_of items) ≡ flat_map g (map row_of before) ++ (flat_map g (map row_of found) ++ flat_map g (map row_of after))
  flat_parts g = ap (flat_map g) strand_parts ∙ flat_map-append g (map row_of before) (map row_of found ++ map row_of after) ∙ ap (λ rs. flat_map g (map row_of before) ++ rs) (flat_map-append g (map row_of found) (map row_of after))

  kept_parts : flat_map (kept c t) (map row_of items) ≡ map row_of before ++ (flat_map (kept c t) (map row_of found) ++ map row_of after)
  kept_parts = flat_parts (kept c t) ∙ rw (u.kept_all, v.kept_all) refl

  removed_parts : flat_map (removed_at c t) (map row_of items) ≡ flat_map (removed_at c t) (map row_of found)
  removed_parts = flat_parts (removed_at c t) ∙ rw (u.removed_none, v.removed_none) (append-nil _)

  added_parts : flat_map (added_at c t) (map row_of items) ≡ flat_map (added_at c t) (map row_of found)
  added_parts = flat_parts (added_at c t) ∙ rw (u.added_none, v.added_none) (append-nil _)

  or_false : (b : Bool) → (b || false) ≡ b
  or_false true = refl
  or_false false = refl

  stuck_parts : list_any (is_stuck c) (map row_of items) ≡ list_any (is_stuck c) (map row_of found)
  stuck_parts =
      ap (list_any (is_stuck c)) strand_parts ∙ list_any-append (is_stuck c) (map row_of before) (map row_of found ++ map row_of after)
      ∙ rw (u.in_range, list_any-append (is_stuck c) (map row_of found) (map row_of after), v.in_range) (or_false _)

  new_parts : (rows : List Declared) → map row_of rows ≡ flat_map (kept c t) (map row_of found) → map row_of (splice items (length before) (length before + length found) rows) ≡ flat_map (kept c t) (map row_of items)
  new_parts rows e = ap (map row_of) (spliced before found after rows) ∙ map_append row_of before (rows ++ after) ∙ ap (λ rs. map row_of before ++ rs) (map_append row_of rows after ∙ ap (λ rs. rs ++ map row_of after) e) ∙ sym kept_parts

-- ---- the rows of the one key that has rows that are met

module _ (law : Sharing) (correction : Correction) (m : Map) (om : IsOrdered key_cmp m) (im : (l : List Value) → in_strand l 0 (strands_of m l) ≡ true) (k : List Value) (only : (r : Row) → Has (rows_in m.entries) r → is_met (action_of_correction correction) r ≡ true → r.key ≡ k) (start : ℕ) (found : List Declared) (s : AreSharing days_of_row (period_of correction.portion) (items_of m k) start found) where
  abbrev c : Action
  c = action_of_correction correction

  abbrev t : ℕ
  t = correction.system_start

  front : Unmet c t (map row_of s.before)
  front = unmet c t s.before (none_met law correction s.before s.none_before)

  back : Unmet c t (map row_of s.after)
  back = unmet c t s.after (none_met law correction s.after s.none_after)

  strand : strands_of m k ≡ map row_of (s.before ++ (found ++ s.after))
  strand = strand_items (get key_cmp m k) ∙ ap (map row_of) s.all

  pub removed_found : flat_map (removed_at c t) (map row_of found) ≡ flat_map (removed_at c t) (rows_in m.entries)
  removed_found = sym (removed_parts c t s.before found s.after front back) ∙ ap (flat_map (removed_at c t)) (sym strand) ∙ removed_strand c t m om im k only

  pub added_found : flat_map (added_at c t) (map row_of found) ≡ flat_map (added_at c t) (rows_in m.entries)
  added_found = sym (added_parts c t s.before found s.after front back) ∙ ap (flat_map (added_at c t)) (sym strand) ∙ added_strand c t m om im k only

  pub stuck_found : list_any (is_stuck c) (map row_of found) ≡ list_any (is_stuck c) (rows_in m.entries)
  stuck_found = sym (stuck_parts c t s.before found s.after front back) ∙ ap (list_any (is_stuck c)) (sym strand) ∙ stuck_strand c t m om im k only

  pub found_within : start + length found ≤ length (items_of m k)
  found_within =
      let all = ap length s.all ∙ length-append s.before (found ++ s.after) in
      let rest = length-append found s.after in
      let place = s.place_is in
      omega arith

  pub short_found : length found ≤ length (rows_in m.entries)
  short_found =
      let short = short_strand c t m om im k only in
      let long = ap length (strand_items (get key_cmp m k)) ∙ length-map (items_of m k) row_of in
      let within = found_within in
      omega arith

  pub long_found : length (flat_map (kept c t) (rows_in m.entries)) + length found ≡ length (rows_in m.entries) + length (flat_map (kept c t) (map row_of found))
  long_found =
      let long = long_strand c t m om im k only in
      let old = ap length strand ∙ ap length (strand_parts c t s.before found s.after front back) ∙ length-append (map row_of s.before) (map row_of found ++ map row_of s.after) in
      let old2 = length-append (map row_of found) (map row_of s.after) in
      let old3 = length-map found row_of in
      let new = ap (λ rs. length (flat_map (kept c t) rs)) strand ∙ ap length (kept_parts c t s.before found s.after front back) ∙ length-append (map row_of s.before) (flat_map (kept c t) (map row_of found) ++ map row_of s.after) in
      let new2 = length-append (flat_map (kept c t) (map row_of found)) (map row_of s.after) in
      omega arith

  -- how many rows the table has then
  pub new_count : (old len : ℕ) (rows : List Declared) → old ≡ length (rows_in m.entries) → len ≡ length rows → map row_of rows ≡ flat_map (kept c t) (map row_of found) → (old - length found) + len ≡ length (flat_map (kept c t) (rows_in m.entries))
  new_count old len rows before there correction_rows =
      let long = long_found in
      let short = short_found in
      let kept_rows = ap length correction_rows in
      let all = length-map rows row_of in
      omega arith

  module _ (rows : List Declared) (correction_rows : map row_of rows ≡ flat_map (kept c t) (map row_of found)) where
    abbrev replaced : List Declared
    replaced = splice (items_of m k) start (start + length found) rows

    new_strand : map row_of replaced ≡ flat_map (kept c t) (strands_of m k)
    new_strand =
        ap (λ n. map row_of (splice (items_of m k) n (n + length found) rows)) (sym s.place_is)
        ∙ ap (λ xs. map row_of (splice xs (length s.before) (length s.before + length found) rows)) s.all
        ∙ new_parts c t s.before found s.after front back rows correction_rows
        ∙ ap (flat_map (kept c t)) (sym strand)

    pub found_apart : AreApart (map days_of_row replaced)
    found_apart = apart_in_strand k 0 replaced (subst (λ rs. in_strand k 0 rs ≡ true) (sym new_strand) (correction_in_strand c t k 0 (strands_of m k) (correction_portion correction) (im k)))

    pub found_each : (n : Map) → items_of n ≡ changed_at k (λ old. splice old start (start + length found) rows) (items_of m) → (l : List Value) → strands_of n l ≡ flat_map (kept c t) (strands_of m l)
    found_each n changed l =
        let now = changed_strands m n k (λ old. splice old start (start + length found) rows) (flat_map (kept c t) (strands_of m k)) changed new_strand in
        let at = ap (λ strands. strands l) now in
        elim (cases_Bool (same_key k l)) [
          | inl same ↦
              let key = same_key-true k l same in
              subst (λ j. strands_of n j ≡ flat_map (kept c t) (strands_of m j)) key (ap (λ strands. strands k) now ∙ with_here k (flat_map (kept c t) (strands_of m k)) (strands_of m))
          | inr other ↦ at ∙ with_other k (flat_map (kept c t) (strands_of m k)) (strands_of m) l other ∙ sym (other_stays l other)
        ]
      where
        other_stays : (j : List Value) → same_key k j ≡ false → flat_map (kept c t) (strands_of m j) ≡ strands_of m j
        other_stays j other = strand_stays c t m om im k only j (turned k j false other)

  -- where none shares a day, nothing becomes of the key's rows
  pub none_each : found ≡ [] → (l : List Value) → strands_of m l ≡ flat_map (kept c t) (strands_of m l)
  none_each none l = elim (cases_Bool (same_key k l)) [
    | inl same ↦ subst (λ j. strands_of m j ≡ flat_map (kept c t) (strands_of m j)) (same_key-true k l same) here
    | inr other ↦ sym (strand_stays c t m om im k only l (turned k l false other))
  ]
    where
      here : strands_of m k ≡ flat_map (kept c t) (strands_of m k)
      here =
          strand ∙ strand_parts c t s.before found s.after front back
          ∙ ap (λ rs. map row_of s.before ++ (rs ++ map row_of s.after)) (ap (map row_of) none ∙ sym (ap (λ fs. flat_map (kept c t) (map row_of fs)) none))
          ∙ sym (kept_parts c t s.before found s.after front back) ∙ ap (flat_map (kept c t)) (sym strand)

-- ---- why it is refused

pub refused : (c : Action) (t : ℕ) (rows : List Row) (b : Bool) (refusal : Refusal) → b ≡ list_any (is_stuck c) rows → (refusal ≡ NoMemory) ⊎ ((refusal ≡ NumberRange) × (b ≡ true)) → IsCorrectionRefused c t rows refusal
refused c t rows b refusal e (inl n) = inl n
refused c t rows b refusal e (inr r) = inr (inl (r.0, sym e ∙ r.1))

pub if_err : {A E : Type 0} (r : Result A E) {P Q : E → Type 0} → ((e : E) → P e → Q e) → IfErr r P → IfErr r Q
if_err (Ok a) f h = h
if_err (Err e) f h = f e h
