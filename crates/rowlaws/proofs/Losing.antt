-- Days that a key loses.
use Rattle.std.proofs.Common.{◌≡◌, ℕ, ◌<◌, ◌≤◌, ◌⊎◌, inl, inr, Bool, true, false, cond, not, ◌&&◌, ◌==◌, List, [], ◌∷◌, filter, Option, Some, None, option_map, unwrap_or, is_some, Result, Ok, Err, refl, sym, ap, ◌∙◌, subst, arith}
use Rattle.std.specs.Prelude.{find}
use Rattle.std.specs.List.{list_any}
use Rattle.std.proofs.lemmas.Bool.{cases_Bool, and_parts, and_from, le-leb, lt-ltb, leb-true, ltb-true, eqb-true, not-true, not_from_false, or_left, or_right}
use Rattle.fault.specs.declared.refusal.Refusal.{Refusal}
use Rattle.fault.specs.declared.refusal.Refusal.TheVariants.{KeyOverlap, RowLimit, NumberRange}
use Rattle.model.specs.declared.value.Value.{Value}
use Rattle.model.specs.Values.{same_key}
use Rattle.model.specs.Tables.{Period, Fact, Table, Row, IsRow, inside}
use Rattle.model.specs.Periods.{is_free}
use Rattle.model.specs.Statements.{days_of, inserted, updated, deleted, insert_overlaps, set_overflows, is_met}
use Rattle.model.specs.Transactions.{State, Statement, Action, Insert, Update, Delete, changed, and_then, within_limit, with_table, run_statement, run_statements}
use Rattle.rowlaws.specs.Rows.{Has, Lists}
use Rattle.rowlaws.specs.Touching.{IsTouched}
use Rattle.rowlaws.specs.Covering.{periods_of}
use Rattle.rowlaws.specs.Losing.{is_lost, day_went, is_uncovered, loses, has_lost_day, losing_keys, IsTouchedAmong, may_empty, may_empty_in, LostDay, LosesDay, LosingKeys, LosingAmong, TouchedAmong, UntouchedAmong, AmongBoth, LostByAction, LostByStatements}
use Rattle.rowlaws.proofs.Keys.{same_key-true, same_key-itself}
use Rattle.rowlaws.proofs.Members.{has_left, has_right, has_map, map_has, has_filter, filter_has}
use Rattle.rowlaws.proofs.RowFacts.{both, one_row}
use Rattle.rowlaws.proofs.Recut.{some_fact}
use Rattle.rowlaws.proofs.Anys.{any_has, has_any, same_test}
use Rattle.rowlaws.proofs.Least.{IsLeast, find_day}
use Rattle.rowlaws.proofs.Orphaned.{filled_by}
use Rattle.rowlaws.proofs.Touches.{ok_if}

-- ---- periods of a key

pub has_period : (rows : List Row) (k : List Value) (r : Row) → Has rows r → r.key ≡ k → Has (periods_of rows k) r.period
has_period rows k r h e = has_map (λ (x : Row). x.period) _ r (has_filter (λ (x : Row). same_key x.key k) rows r h (ap (λ m. same_key m k) e ∙ same_key-itself k))

pub period_has : (rows : List Row) (k : List Value) (p : Period) → Has (periods_of rows k) p → (r : Row) × Has rows r × (r.key ≡ k) × (p ≡ r.period)
period_has rows k p h =
    let m = map_has (λ (x : Row). x.period) _ p h in
    let r = filter_has (λ (x : Row). same_key x.key k) rows m.0 m.1 in
    (m.0, r.0, same_key-true m.0.key k r.1, m.2)

pub is_inside : (p : Period) (d : ℕ) → p.start ≤ d → d < p.end → inside p d ≡ true
is_inside p d a b = and_from _ _ (le-leb _ _ a) (lt-ltb _ _ b)

inside_is : (p : Period) (d : ℕ) → inside p d ≡ true → (p.start ≤ d) × (d < p.end)
inside_is p d h = let q = and_parts _ _ h in (leb-true _ _ q.0, ltb-true _ _ q.1)

-- a row of the key that has the day is among them
free_not : (rows : List Row) (k : List Value) (d : ℕ) (r : Row) → is_free (periods_of rows k) d ≡ true → Has rows r → r.key ≡ k → r.period.start ≤ d → d < r.period.end → ⊥
free_not rows k d r free h e a b = both (has_any (λ (p : Period). inside p d) (periods_of rows k) r.period (has_period rows k r h e) (is_inside r.period d a b)) (not-true _ free)

filled_row : (table : Table) (r : Row) (k : List Value) (d : ℕ) → IsRow table r → r.key ≡ k → r.period.start ≤ d → d < r.period.end → is_some (table.fact k d) ≡ true
filled_row table r k d row e a b = subst (λ x. is_some (table.fact x d) ≡ true) e (ap is_some (row.filled d a b))

-- ---- a day that is in none of the periods

pub uncovered_by : (f : ℕ → Bool) (p : Period) (d : ℕ) → p.start ≤ d → d < p.end → f d ≡ true → (o : Option ℕ) → IsLeast f p.start p.end o → is_some o ≡ true
uncovered_by f p d a b h None g = absurd (both h (g d a b))
uncovered_by f p d a b h (Some x) g = refl

uncovered_day : (f : ℕ → Bool) (p : Period) (o : Option ℕ) → IsLeast f p.start p.end o → is_some o ≡ true → (d : ℕ) × (p.start ≤ d) × (d < p.end) × (f d ≡ true)
uncovered_day f p None g h = absurd (both h refl)
uncovered_day f p (Some d) g h = (d, g.0, g.1, g.2)

-- ---- by what went and came

module _ (rows more : List Row) (old new : Table) (removed added : List Row) (l : Lists rows old) (m : Lists more new) (touch : IsTouched old new removed added) (k : List Value) where
  -- the row that had a lost day went
  went_with : (d : ℕ) → is_lost old new k d ≡ true → (r : Row) × Has removed r × (r.key ≡ k) × (r.period.start ≤ d) × (d < r.period.end)
  went_with d h =
      let q = and_parts _ _ h in
      let c = some_fact (old.fact k d) q.0 in
      let r = l.every k d c.0 c.1 in
      elim (touch.stay r.0 (l.each r.0 r.1)) [
        | inl n ↦ absurd (both (filled_row new r.0 k d n r.2 r.3 r.4) (not-true _ q.1))
        | inr g ↦ (r.0, g, r.2, r.3, r.4)
      ]

  came_free : (d : ℕ) → is_lost old new k d ≡ true → is_free (periods_of added k) d ≡ true
  came_free d h = elim (cases_Bool (list_any (λ (p : Period). inside p d) (periods_of added k))) [
    | inr n ↦ not_from_false _ n
    | inl y ↦
        let p = any_has (λ (p : Period). inside p d) (periods_of added k) y in
        let r = period_has added k p.0 p.1 in
        let i = inside_is r.0.period d (subst (λ (x : Period). inside x d ≡ true) r.3 p.2) in
        absurd (both (filled_row new r.0 k d (touch.came r.0 r.1).0 r.2 i.0 i.1) (not-true _ (and_parts _ _ h).1))
  ]

  lost_went : (d : ℕ) → is_lost old new k d ≡ true → day_went removed added k d ≡ true
  lost_went d h =
      let r = went_with d h in
      and_from _ _ (has_any (λ (p : Period). inside p d) (periods_of removed k) r.0.period (has_period removed k r.0 r.1 r.2) (is_inside r.0.period d r.3 r.4)) (came_free d h)

  -- no row that is there has a day of one that went
  not_there : (r : Row) (d : ℕ) → Has removed r → r.key ≡ k → r.period.start ≤ d → d < r.period.end → is_free (periods_of added k) d ≡ true → is_some (new.fact k d) ≡ true → ⊥
  not_there r d g e a b free h =
      let c = some_fact (new.fact k d) h in
      let s = m.every k d c.0 c.1 in
      let went = touch.went r g in
      elim (touch.comes s.0 (m.each s.0 s.1)) [
        | inl o ↦
            let same = one_row o went.0 k d (record { key = s.2; from = s.3; before = s.4 }) (record { key = e; from = a; before = b }) in
            went.1 (subst (λ x. IsRow new x) same (m.each s.0 s.1))
        | inr h ↦ free_not added k d s.0 free h s.2 s.3 s.4
      ]

  went_lost : (r : Row) (d : ℕ) → Has removed r → r.key ≡ k → r.period.start ≤ d → d < r.period.end → is_free (periods_of added k) d ≡ true → is_lost old new k d ≡ true
  went_lost r d g e a b free = and_from _ _ (filled_row old r k d (touch.went r g).0 e a b) (elim (cases_Bool (is_some (new.fact k d))) [
    | inl y ↦ absurd (not_there r d g e a b free y)
    | inr n ↦ not_from_false _ n
  ])

  day_lost : (d : ℕ) → day_went removed added k d ≡ true → is_lost old new k d ≡ true
  day_lost d h =
      let q = and_parts _ _ h in
      let p = any_has (λ (p : Period). inside p d) (periods_of removed k) q.0 in
      let r = period_has removed k p.0 p.1 in
      let i = inside_is r.0.period d (subst (λ (x : Period). inside x d ≡ true) r.3 p.2) in
      went_lost r.0 d r.1 r.2 i.0 i.1 q.1

  loses_one : (d : ℕ) → is_lost old new k d ≡ true → loses removed added k ≡ true
  loses_one d h =
      let r = went_with d h in
      let a = r.3 in
      let b = r.4 in
      has_any (is_uncovered (periods_of added k)) (periods_of removed k) r.0.period (has_period removed k r.0 r.1 r.2)
      (uncovered_by (is_free (periods_of added k)) r.0.period d r.3 r.4 (came_free d h) (find (is_free (periods_of added k)) (days_of r.0.period)) (find_day (is_free (periods_of added k)) r.0.period (omega arith)))

  one_loses : loses removed added k ≡ true → (d : ℕ) × (is_lost old new k d ≡ true)
  one_loses h =
      let p = any_has (is_uncovered (periods_of added k)) (periods_of removed k) h in
      let r = period_has removed k p.0 p.1 in
      let some = (touch.went r.0 r.1).0.some in
      let d = uncovered_day (is_free (periods_of added k)) r.0.period (find (is_free (periods_of added k)) (days_of r.0.period)) (find_day (is_free (periods_of added k)) r.0.period (omega arith)) (subst (λ x. is_uncovered (periods_of added k) x ≡ true) r.3 p.2) in
      (d.0, went_lost r.0 d.0 r.1 r.2 d.1 d.2 d.3)

pub lost_day : LostDay
lost_day rows more old new removed added k d l m touch = same_test _ _ (lost_went rows more old new removed added l m touch k d) (day_lost rows more old new removed added l m touch k d)

pub loses_day : LosesDay
loses_day rows more old new removed added k l m touch = (one_loses rows more old new removed added l m touch k, λ d. loses_one rows more old new removed added l m touch k d.0 d.1)

-- ---- by what stands now, where rows that came and went again may be told of

module _ (rows more : List Row) (old new : Table) (removed added : List Row) (l : Lists rows old) (m : Lists more new) (touch : IsTouchedAmong old new removed added) (k : List Value) where
  pub now_free : (d : ℕ) → is_lost old new k d ≡ true → is_free (periods_of more k) d ≡ true
  now_free d h = sym (ap not (filled_by more new m k d)) ∙ (and_parts _ _ h).1

  pub among_with : (d : ℕ) → is_lost old new k d ≡ true → (r : Row) × Has removed r × (r.key ≡ k) × (r.period.start ≤ d) × (d < r.period.end)
  among_with d h =
      let q = and_parts _ _ h in
      let c = some_fact (old.fact k d) q.0 in
      let r = l.every k d c.0 c.1 in
      elim (touch.stay r.0 (l.each r.0 r.1)) [
        | inl n ↦ absurd (both (filled_row new r.0 k d n r.2 r.3 r.4) (not-true _ q.1))
        | inr g ↦ (r.0, g, r.2, r.3, r.4)
      ]

  pub among_losing : (d : ℕ) → is_lost old new k d ≡ true → Has (losing_keys removed more) k
  among_losing d h =
      let r = among_with d h in
      let a = r.3 in
      let b = r.4 in
      let free : is_free (periods_of more r.0.key) d ≡ true = subst (λ x. is_free (periods_of more x) d ≡ true) (sym r.2) (now_free d h) in
      let lost : has_lost_day more r.0 ≡ true =
      uncovered_by (is_free (periods_of more r.0.key)) r.0.period d r.3 r.4 free (find (is_free (periods_of more r.0.key)) (days_of r.0.period)) (find_day (is_free (periods_of more r.0.key)) r.0.period (omega arith)) in
      subst (λ x. Has (losing_keys removed more) x) r.2 (has_map (λ (x : Row). x.key) (filter (has_lost_day more) removed) r.0 (has_filter (has_lost_day more) removed r.0 r.1 lost))

pub losing_among : LosingAmong
losing_among rows more old new removed added k d l m touch h = among_losing rows more old new removed added l m touch k d h

pub touched_among : TouchedAmong
touched_among old new removed added touch = record { stay = touch.stay; comes = touch.comes }

-- a key of a row that went with a day that is empty now
losing_one : (rows more : List Row) (old new : Table) (removed added : List Row) (k : List Value) → Lists more new → IsTouched old new removed added → Has (losing_keys removed more) k → (d : ℕ) × (is_lost old new k d ≡ true)
losing_one rows more old new removed added k m touch h =
    let x = map_has (λ (x : Row). x.key) (filter (has_lost_day more) removed) k h in
    let r = filter_has (has_lost_day more) removed x.0 x.1 in
    let row = (touch.went x.0 r.0).0 in
    let some = row.some in
    let d = uncovered_day (is_free (periods_of more x.0.key)) x.0.period (find (is_free (periods_of more x.0.key)) (days_of x.0.period)) (find_day (is_free (periods_of more x.0.key)) x.0.period (omega arith)) r.1 in
    let empty : not (is_some (new.fact x.0.key d.0)) ≡ true = ap not (filled_by more new m x.0.key d.0) ∙ d.3 in
    (d.0, subst (λ y. is_lost old new y d.0 ≡ true) (sym x.2) (and_from _ _ (filled_row old x.0 x.0.key d.0 row refl d.1 d.2) empty))

pub losing_keys_are : LosingKeys
losing_keys_are rows more old new removed added k l m touch =
    (losing_one rows more old new removed added k m touch, λ d. among_losing rows more old new removed added l m (touched_among old new removed added touch) k d.0 d.1)

pub untouched_among : UntouchedAmong
untouched_among table = record { stay = λ row h. inl h; comes = λ row h. inl h }

pub among_both : AmongBoth
among_both a b c removed added later_removed later_added first second = record {
  stay = λ row x. elim (first.stay row x) [
    | inl y ↦ elim (second.stay row y) [ inl z ↦ inl z | inr g ↦ inr (has_right removed later_removed row g) ]
    | inr g ↦ inr (has_left removed later_removed row g)
  ];
  comes = λ row z. elim (second.comes row z) [
    | inl y ↦ elim (first.comes row y) [ inl x ↦ inl x | inr k ↦ inr (has_left added later_added row k) ]
    | inr k ↦ inr (has_right added later_added row k)
  ];
}

-- ---- by actions

inserted_keeps : (b : Bool) (c : Fact) (o : Option Fact) → (is_some o && not (is_some (cond b (Some c) o))) ≡ true → ⊥
inserted_keeps b c None h = both h refl
inserted_keeps true c (Some x) h = both h refl
inserted_keeps false c (Some x) h = both h refl

updated_keeps : (b : Bool) (f : Fact → Fact) (o : Option Fact) → (is_some o && not (is_some (cond b (option_map f o) o))) ≡ true → ⊥
updated_keeps b f None h = both h refl
updated_keeps true f (Some x) h = both h refl
updated_keeps false f (Some x) h = both h refl

deleted_keeps : (b i : Bool) (f : Fact → Fact) (o : Option Fact) → (is_some o && not (is_some (cond b (cond i None (option_map f o)) o))) ≡ true → i ≡ true
deleted_keeps b i f None h = absurd (both h refl)
deleted_keeps false i f (Some x) h = absurd (both h refl)
deleted_keeps true true f (Some x) h = refl
deleted_keeps true false f (Some x) h = absurd (both h refl)

by_delete : (passes : Row → Bool) (p : Period) (t : ℕ) (old : Table) (k : List Value) (d : ℕ) → is_lost old (deleted passes p t old) k d ≡ true → inside p d ≡ true
unfolding deleted
by_delete passes p t old k d h = deleted_keeps (is_met passes p old k d) (inside p d) (λ c. record { values = c.values; system_start = t }) (old.fact k d) h

by_update : (passes : Row → Bool) (p : Period) (set : List Value → Option (List Value)) (t : ℕ) (old : Table) (k : List Value) (d : ℕ) → is_lost old (updated passes p set t old) k d ≡ true → ⊥
unfolding updated
by_update passes p set t old k d h = updated_keeps (is_met passes p old k d) (λ c. record { values = cond (inside p d) (unwrap_or (set c.values) c.values) c.values; system_start = t }) (old.fact k d) h

by_insert : (key values : List Value) (p : Period) (t : ℕ) (old : Table) (k : List Value) (d : ℕ) → is_lost old (inserted key values p t old) k d ≡ true → ⊥
unfolding inserted
by_insert key values p t old k d h = inserted_keeps (same_key k key && inside p d) (record { values = values; system_start = t }) (old.fact k d) h

pub lost_by_action : LostByAction
unfolding changed
lost_by_action (Insert key values p) t old new k d e h =
    let o = ok_if (insert_overlaps key p old) KeyOverlap (inserted key values p t old) new e in
    absurd (by_insert key values p t old k d (subst (λ x. is_lost old x k d ≡ true) (sym o.1) h))
lost_by_action (Update passes p set) t old new k d e h =
    let o = ok_if (set_overflows passes p set old) NumberRange (updated passes p set t old) new e in
    absurd (by_update passes p set t old k d (subst (λ x. is_lost old x k d ≡ true) (sym o.1) h))
lost_by_action (Delete passes p) t old new k d e h =
    let q : deleted passes p t old ≡ new = cc in
    by_delete passes p t old k d (subst (λ x. is_lost old x k d ≡ true) (sym q) h)

-- ---- by statements

pub then_ok : {A B : Type 0} (x : Result A Refusal) (f : A → Result B Refusal) (y : B) → and_then x f ≡ Ok y → (a : A) × (x ≡ Ok a) × (f a ≡ Ok y)
then_ok (Ok a) f y h = (a, refl, h)
then_ok (Err e) f y h = absurd (cc)

not_itself : (b : Bool) → (b && not b) ≡ true → ⊥
not_itself true h = both h refl
not_itself false h = both h refl

-- a day that is lost in the end is lost at first or later
lost_then : (a b c : Bool) → (a && not c) ≡ true → ((a && not b) ≡ true) ⊎ ((b && not c) ≡ true)
lost_then true true c h = inr h
lost_then true false c h = inl refl
lost_then false b c h = absurd (both h refl)

lost_at : (c : Action) (t m n : ℕ) (state : State) (table : Table) (k : List Value) (d : ℕ) → changed c t (state m) ≡ Ok table → is_lost (state n) (with_table m state table n) k d ≡ true → (n == m && may_empty c d) ≡ true
lost_at c t m n state table k d e h = elim (cases_Bool (n == m)) [
  | inl y ↦
      let lost : is_lost (state n) table k d ≡ true = subst (λ b. is_lost (state n) (cond b table (state n)) k d ≡ true) y h in
      and_from _ _ y (lost_by_action c t (state m) table k d e (subst (λ x. is_lost (state x) table k d ≡ true) (eqb-true n m y) lost))
  | inr x ↦ absurd (not_itself _ (subst (λ b. is_lost (state n) (cond b table (state n)) k d ≡ true) x h))
]

pub lost_by_statement : (t : ℕ) (s : Statement) (state next : State) (n : ℕ) (k : List Value) (d : ℕ) → run_statement t s state ≡ Ok next → is_lost (state n) (next n) k d ≡ true → may_empty_in n d s ≡ true
lost_by_statement t s state next n k d e h =
    let a = then_ok (and_then (changed s.action t (state s.table)) within_limit) (λ table. Ok (with_table s.table state table)) next e in
    let b = then_ok (changed s.action t (state s.table)) within_limit a.0 a.1 in
    let o = ok_if _ RowLimit b.0 a.0 b.2 in
    let q : with_table s.table state a.0 ≡ next = let z = a.2 in cc in
    lost_at s.action t s.table n state a.0 k d (b.1 ∙ ap (λ x. Ok x) o.1) (subst (λ x. is_lost (state n) (x n) k d ≡ true) (sym q) h)

pub lost_by_statements : LostByStatements
lost_by_statements t [] state next n k d e h = let q : state ≡ next = cc in absurd (not_itself _ (subst (λ x. is_lost (state n) (x n) k d ≡ true) (sym q) h))
lost_by_statements t (s ∷ ss) state next n k d e h =
    let a = then_ok (run_statement t s state) (run_statements t ss) next e in
    elim (lost_then (is_some ((state n).fact k d)) (is_some ((a.0 n).fact k d)) (is_some ((next n).fact k d)) h) [
      | inl x ↦ or_left _ _ (lost_by_statement t s state a.0 n k d a.1 x)
      | inr y ↦ or_right _ _ (lost_by_statements t ss a.0 next n k d a.2 y)
    ]
