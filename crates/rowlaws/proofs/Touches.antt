-- What a statement touches, by the rows that it meets alone; and two statements in turn.
use Rattle.std.proofs.Common.{◌≡◌, ℕ, ◌<◌, ◌≤◌, ◌⊎◌, inl, inr, Bool, true, false, cond, List, [], ◌∷◌, ◌++◌, filter, flat_map, Ok, Err, refl, sym, subst, arith}
use Rattle.std.proofs.lemmas.Bool.{cases_Bool, cond-true, cond-false}
use Rattle.model.specs.declared.value.Value.{Value}
use Rattle.model.specs.Tables.{days, Period, Table, Row, IsRow}
use Rattle.rowlaws.specs.Rows.{Has, Apart, Lists}
use Rattle.model.specs.Statements.{inserted, updated, deleted, insert_overlaps, set_overflows, meets}
use Rattle.rowlaws.specs.Cutting.{cut_rows, pieces, rest, removed_rows}
use Rattle.fault.specs.declared.refusal.Refusal.{Refusal}
use Rattle.fault.specs.declared.refusal.Refusal.TheVariants.{KeyOverlap, NumberRange}
use Rattle.model.specs.Transactions.{Insert, Update, Delete, changed}
use Rattle.rowlaws.specs.Changes.{Follows}
use Rattle.rowlaws.specs.Touching.{rows_without, IsTouched, removed_by, added_by, removed_both, added_both, TouchedBy, Undo}
use Rattle.rowlaws.proofs.Members.{has_left, has_right, has_cases, apart_append, apart_flat, apart_filter, has_flat, flat_has, has_filter, filter_has}
use Rattle.rowlaws.proofs.RowFacts.{both, one_row}
use Rattle.rowlaws.proofs.Recut.{Cuts}
use Rattle.rowlaws.proofs.Inserted.{stays, comes, apart_from}
use Rattle.rowlaws.proofs.Listed.{lists_inserted, row_listed}
use Rattle.rowlaws.proofs.Updated.{lists_updated, cut_cuts}
use Rattle.rowlaws.proofs.Deleted.{lists_deleted, removed_cuts}
use Rattle.rowlaws.proofs.Differences.{without_has, has_without, apart_without}

-- ---- two in turn

module _ (t : ℕ) (a b c : Table) (removed added later_removed later_added : List Row) (first : IsTouched a b removed added) (second : IsTouched b c later_removed later_added)
    (follows : Follows t a b) (follows_later : Follows t b c) (old : (r : Row) → IsRow a r → r.system_start < t) where
  born : (r : Row) → Has added r → r.system_start ≡ t
  born r h = let k = first.came r h in elim (follows r k.0) [ inl x ↦ absurd (k.1 x) | inr e ↦ e ]

  born_later : (r : Row) → Has later_added r → r.system_start ≡ t
  born_later r h = let k = second.came r h in elim (follows_later r k.0) [ inl x ↦ absurd (k.1 x) | inr e ↦ e ]

  not_both : (r : Row) → IsRow a r → r.system_start ≡ t → ⊥
  not_both r h e = let l = old r h in omega arith

  still : (r : Row) → IsRow a r → IsRow b r → IsRow c r ⊎ Has (removed_both removed added later_removed) r
  still r x y = elim (second.stay r y) [
    | inl z ↦ inl z
    | inr g ↦ elim (has_without later_removed added r g) [ inl k ↦ absurd (not_both r x (born r k)) | inr k ↦ inr (has_right removed (rows_without later_removed added) r k) ]
  ]

  newer : (r : Row) → IsRow b r → IsRow c r → IsRow a r ⊎ Has (added_both added later_removed later_added) r
  newer r y z = elim (first.comes r y) [
    | inl x ↦ inl x
    | inr k ↦ elim (has_without added later_removed r k) [ inl g ↦ absurd ((second.went r g).1 z) | inr w ↦ inr (has_left (rows_without added later_removed) later_added r w) ]
  ]

  went_both : (r : Row) → Has (removed_both removed added later_removed) r → IsRow a r × (IsRow c r → ⊥)
  went_both r h = elim (has_cases removed (rows_without later_removed added) r h) [
    | inl g ↦ let w = first.went r g in (w.0, λ z. elim (second.comes r z) [ inl y ↦ w.1 y | inr k ↦ not_both r w.0 (born_later r k) ])
    | inr g ↦ let x = without_has later_removed added r g in let w = second.went r x.0 in (elim (first.comes r w.0) [ inl y ↦ y | inr k ↦ absurd (x.1 k) ], w.1)
  ]

  came_both : (r : Row) → Has (added_both added later_removed later_added) r → IsRow c r × (IsRow a r → ⊥)
  came_both r h = elim (has_cases (rows_without added later_removed) later_added r h) [
    | inl g ↦ let x = without_has added later_removed r g in let w = first.came r x.0 in (elim (second.stay r w.0) [ inl z ↦ z | inr k ↦ absurd (x.1 k) ], w.1)
    | inr g ↦ let w = second.came r g in (w.0, λ x. not_both r x (born_later r g))
  ]

  pub touched_both : IsTouched a c (removed_both removed added later_removed) (added_both added later_removed later_added)
  touched_both = record {
    went = went_both;
    stay = λ r x. elim (first.stay r x) [ inl y ↦ still r x y | inr g ↦ inr (has_left removed (rows_without later_removed added) r g) ];
    came = came_both;
    comes = λ r z. elim (second.comes r z) [ inl y ↦ newer r y z | inr k ↦ inr (has_right (rows_without added later_removed) later_added r k) ];
    removed_once = apart_append removed (rows_without later_removed added) first.removed_once (apart_without later_removed added second.removed_once)
        (λ r h g. (first.went r h).1 (second.went r (without_has later_removed added r g).0).0);
    added_once = apart_append (rows_without added later_removed) later_added (apart_without added later_removed first.added_once) second.added_once
        (λ r h g. (second.came r g).1 (first.came r (without_has added later_removed r h).0).0);
  }

-- ---- rows that are met are cut, and the others stay

module _ (test : Row → Bool) (g : Row → List Row) (old new : Table) (rows : List Row) where
  abbrev f : Row → List Row
  f r = cond (test r) (g r) (r ∷ [])

  abbrev met : List Row
  met = filter test rows

  abbrev made : List Row
  made = flat_map g met

  module _ (l : Lists rows old) (m : Lists (flat_map f rows) new) (cuts : (r : Row) → Has rows r → Cuts f new r) where
    -- a row of the new list is made of one that is met, or is one that is not
    from : (r : Row) → Has (flat_map f rows) r → Has made r ⊎ (Has rows r × (test r ≡ false))
    from r h =
        let x = flat_has f rows r h in
        elim (cases_Bool (test x.0)) [
          | inl y ↦ inl (has_flat g met x.0 r (has_filter test rows x.0 x.1 y) (subst (λ xs. Has xs r) (cond-true _ _ _ y) x.2))
          | inr n ↦ elim (subst (λ xs. Has xs r) (cond-false _ _ _ n) x.2) [ inl e ↦ inr (subst (λ z. Has rows z × (test z ≡ false)) (sym e) (x.1, n)) | inr z ↦ absurd z ]
        ]

    made_new : (r : Row) → Has made r → (x : Row) × Has rows x × (test x ≡ true) × Has (f x) r
    made_new r h =
        let x = flat_has g met r h in
        let w = filter_has test rows x.0 x.1 in
        (x.0, w.0, w.1, subst (λ xs. Has xs r) (sym (cond-true _ _ _ w.1)) x.2)

    -- a row that is made and was there before is the one that it is made of
    met_again : (r : Row) → Has made r → IsRow old r → Has met r
    met_again r h row =
        let x = made_new r h in
        let piece = ((cuts x.0 x.1).each r x.3).1 in
        let s = piece.some in
        let a = piece.from in
        let b = piece.to in
        let same = one_row row (l.each x.0 x.1) x.0.key r.period.start (record { key = piece.key; from = omega arith; before = s }) (record { key = refl; from = a; before = omega arith }) in
        subst (λ z. Has met z) (sym same) (has_filter test rows x.0 x.1 x.2)

    in_new : (r : Row) → Has made r → IsRow new r
    in_new r h = let x = made_new r h in m.each r (has_flat f rows x.0 r x.1 x.3)

    unmet_new : (r : Row) → Has rows r → test r ≡ false → IsRow new r
    unmet_new r h n = let one : Has (r ∷ []) r = inl refl in m.each r (has_flat f rows r r h (subst (λ xs. Has xs r) (sym (cond-false (test r) (g r) (r ∷ []) n)) one))

    -- what is made of two rows has no row in common
    apart_made : Apart made
    apart_made = apart_flat g met (apart_filter test rows l.once)
        (λ r h. let w = filter_has test rows r h in subst (λ xs. Apart xs) (cond-true _ _ _ w.1) (cuts r w.0).apart)
        (λ x w y h k a b.
        let p = filter_has test rows x h in
        let q = filter_has test rows w k in
        let u = ((cuts x p.0).each y (subst (λ xs. Has xs y) (sym (cond-true _ _ _ p.1)) a)).1 in
        let v = ((cuts w q.0).each y (subst (λ xs. Has xs y) (sym (cond-true _ _ _ q.1)) b)).1 in
        let s = u.some in
        let u0 = u.from in
        let u1 = u.to in
        let v0 = v.from in
        let v1 = v.to in
        one_row (l.each x p.0) (l.each w q.0) y.key y.period.start (record { key = sym u.key; from = u.from; before = omega arith }) (record { key = sym v.key; from = v.from; before = omega arith }))

    pub touched_cut : IsTouched old new (rows_without met made) (rows_without made met)
    touched_cut = record {
      went = λ r h.
          let w = without_has met made r h in
          let o = filter_has test rows r w.0 in
          (l.each r o.0, λ row. elim (from r (row_listed (flat_map f rows) new r m row)) [ inl k ↦ w.1 k | inr u ↦ both o.1 u.1 ]);
      stay = λ r row.
          let h = row_listed rows old r l row in
          elim (cases_Bool (test r)) [
            | inl y ↦ elim (has_without met made r (has_filter test rows r h y)) [ inl k ↦ inl (in_new r k) | inr w ↦ inr w ]
            | inr n ↦ inl (unmet_new r h n)
          ];
      came = λ r h. let w = without_has made met r h in (in_new r w.0, λ row. w.1 (met_again r w.0 row));
      comes = λ r row. elim (from r (row_listed (flat_map f rows) new r m row)) [
        | inl k ↦ elim (has_without made met r k) [ inl w ↦ inl (l.each r (filter_has test rows r w).0) | inr w ↦ inr w ]
        | inr u ↦ inl (l.each r u.0)
      ];
      removed_once = apart_without met made (apart_filter test rows l.once);
      added_once = apart_without made met apart_made;
    }

-- ---- each statement

pub ok_if : (b : Bool) (e : Refusal) (x y : Table) → cond b (Err e) (Ok x) ≡ Ok y → (b ≡ false) × (x ≡ y)
ok_if true e x y h = cc
ok_if false e x y h = (refl, cc)

touched_insert : (key values : List Value) (p : Period) (t : ℕ) (rows : List Row) (old : Table) → Lists rows old → p.start < p.end → p.end ≤ days → insert_overlaps key p old ≡ false
    → IsTouched old (inserted key values p t old) (rows_without [] (record { key = key; period = p; values = values; system_start = t } ∷ [])) (rows_without (record { key = key; period = p; values = values; system_start = t } ∷ []) [])
touched_insert key values p t rows old l le short clear =
    let new : Row = record { key = key; period = p; values = values; system_start = t } in
    let there = lists_inserted key values p t rows old l le short clear in
    record {
      went = λ r h. absurd (without_has [] (new ∷ []) r h).0;
      stay = λ r row. inl (stays key values p t old le clear row);
      came = λ r h. elim (without_has (new ∷ []) [] r h).0 [
        | inl e ↦ subst (λ x. IsRow (inserted key values p t old) x × (IsRow old x → ⊥)) (sym e) (comes key values p t old le clear, λ row. apart_from key values p t old le clear row refl p.start (omega arith) le (omega arith) le)
        | inr n ↦ absurd n
      ];
      comes = λ r row. elim (has_cases rows (new ∷ []) r (row_listed (rows ++ new ∷ []) (inserted key values p t old) r there row)) [
        | inl h ↦ inl (l.each r h)
        | inr h ↦ elim (has_without (new ∷ []) [] r h) [ inl n ↦ absurd n | inr w ↦ inr w ]
      ];
      removed_once = apart_without [] (new ∷ []) tt;
      added_once = apart_without (new ∷ []) [] ((λ h. h), tt);
    }

pub touched_by : TouchedBy
unfolding changed cut_rows removed_rows
touched_by (Insert key values p) t rows old new fine l h =
    let o = ok_if (insert_overlaps key p old) KeyOverlap (inserted key values p t old) new h in
    subst (λ x. IsTouched old x (removed_by (Insert key values p) t rows) (added_by (Insert key values p) t rows)) o.1 (touched_insert key values p t rows old l fine.0 fine.1 o.0)
touched_by (Update passes p set) t rows old new fine l h =
    let o = ok_if (set_overflows passes p set old) NumberRange (updated passes p set t old) new h in
    subst (λ x. IsTouched old x (removed_by (Update passes p set) t rows) (added_by (Update passes p set) t rows)) o.1
    (touched_cut (meets passes p) (pieces p set t) old (updated passes p set t old) rows l (lists_updated passes p set t old fine rows l) (λ r k. cut_cuts passes p set t old fine (l.each r k) (l.within r k)))
touched_by (Delete passes p) t rows old new fine l h =
    let e : deleted passes p t old ≡ new = cc in
    subst (λ x. IsTouched old x (removed_by (Delete passes p) t rows) (added_by (Delete passes p) t rows)) e
    (touched_cut (meets passes p) (rest p t) old (deleted passes p t old) rows l (lists_deleted passes p t old fine rows l) (λ r k. removed_cuts passes p t old fine (l.each r k) (l.within r k)))

-- ---- undone

pub undone : Undo
undone rows more old new removed added l m touch =
    let left : List Row = rows_without more added in
    let is : (r : Row) → Has (left ++ removed) r → IsRow old r = λ r h. elim (has_cases left removed r h) [
      | inl a ↦ let w = without_has more added r a in elim (touch.comes r (m.each r w.0)) [ inl o ↦ o | inr k ↦ absurd (w.1 k) ]
      | inr g ↦ (touch.went r g).0
    ] in
    let listed : (r : Row) → Has (left ++ removed) r → Has rows r = λ r h. row_listed rows old r l (is r h) in
    record {
      each = is;
      every = λ k d c h.
          let r = l.every k d c h in
          let row = l.each r.0 r.1 in
          let there : Has (left ++ removed) r.0 = elim (touch.stay r.0 row) [
            | inl n ↦ elim (has_without more added r.0 (row_listed more new r.0 m n)) [ inl x ↦ absurd ((touch.came r.0 x).1 row) | inr w ↦ has_left left removed r.0 w ]
            | inr g ↦ has_right left removed r.0 g
          ] in
          (r.0, there, r.2, r.3, r.4);
      once = apart_append left removed (apart_without more added m.once) touch.removed_once (λ r a g. (touch.went r g).1 (m.each r (without_has more added r a).0));
      within = λ r h. l.within r (listed r h);
      keyed = λ r h. l.keyed r (listed r h);
      keys = l.keys;
    }
