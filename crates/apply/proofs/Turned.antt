-- What statements turned, one after another, and what a whole transaction touched.
use Rattle.std.proofs.Common.{◌≡◌, ℕ, ◌<◌, ◌⊎◌, inl, inr, not, List, [], sym, subst, arith}
use Rattle.std.specs.List.{list_any}
use Rattle.std.proofs.lemmas.Bool.{cases_Bool}
use Rattle.model.specs.Tables.{Table, Row, IsRow}
use Rattle.rowlaws.specs.Rows.{Has, Apart}
use Rattle.rowlaws.specs.Changes.{Follows}
use Rattle.rowlaws.specs.Touching.{IsTouched, same_row, rows_without, removed_both, added_both}
use Rattle.rowlaws.proofs.Members.{has_left, has_right, has_cases, apart_append, apart_filter}
use Rattle.rowlaws.proofs.RowFacts.{both}
use Rattle.rowlaws.proofs.Anys.{any_has, has_any}
use Rattle.rowlaws.proofs.SameRow.{same_row-true, same_row-itself, without_has, has_without}
use Rattle.apply.specs.Executing.{IsTurned}

has_or_not : (rows : List Row) (r : Row) → Has rows r ⊎ (Has rows r → ⊥)
has_or_not rows r = elim (cases_Bool (list_any (same_row r) rows)) [
  | inl y ↦ let m = any_has (same_row r) rows y in inl (subst (λ x. Has rows x) (sym (same_row-true r m.0 m.2)) m.1)
  | inr n ↦ inr (λ h. both (has_any (same_row r) rows r h (same_row-itself r)) n)
]

apart_without : (rows more : List Row) → Apart rows → Apart (rows_without rows more)
unfolding rows_without
apart_without rows more a = apart_filter (λ (r : Row). not (list_any (same_row r) more)) rows a

pub stays : (t : ℕ) (table : Table) → IsTurned t table table [] []
stays t table = record {
  went = λ r h. absurd h;
  back = λ r h. absurd h;
  stay = λ r h. inl h;
  came = λ r h. absurd h;
  anew = λ r h. absurd h;
  comes = λ r h. inl h;
  removed_once = tt;
  added_once = tt;
}

module _ (t : ℕ) (a b c : Table) (removed added later_removed later_added : List Row) (first : IsTouched a b removed added) (follows : Follows t a b) (later : IsTurned t b c later_removed later_added) where
  abbrev went_both : List Row
  went_both = removed_both removed added later_removed

  abbrev came_both : List Row
  came_both = added_both added later_removed later_added

  born : (r : Row) → Has added r → r.system_start ≡ t
  born r h = let n = first.came r h in elim (follows r n.0) [ inl o ↦ absurd (n.1 o) | inr e ↦ e ]

  -- a row that goes later, and did not come first, was there
  was : (r : Row) → Has later_removed r → (Has added r → ⊥) → IsRow a r
  was r h n = elim (first.comes r (later.went r h)) [ inl o ↦ o | inr g ↦ absurd (n g) ]

  removed_cases : (r : Row) → Has went_both r → Has removed r ⊎ (Has later_removed r × (Has added r → ⊥))
  removed_cases r h = elim (has_cases removed (rows_without later_removed added) r h) [ inl g ↦ inl g | inr g ↦ inr (without_has later_removed added r g) ]

  added_cases : (r : Row) → Has came_both r → (Has added r × (Has later_removed r → ⊥)) ⊎ Has later_added r
  added_cases r h = elim (has_cases (rows_without added later_removed) later_added r h) [ inl g ↦ inl (without_has added later_removed r g) | inr g ↦ inr g ]

  removed_first : (r : Row) → Has removed r → Has went_both r
  removed_first r h = has_left removed (rows_without later_removed added) r h

  removed_later : (r : Row) → Has later_removed r → (Has added r → ⊥) → Has went_both r
  removed_later r h n = has_right removed (rows_without later_removed added) r (has_without later_removed added r h n)

  added_first : (r : Row) → Has added r → (Has later_removed r → ⊥) → Has came_both r
  added_first r h n = has_left (rows_without added later_removed) later_added r (has_without added later_removed r h n)

  added_later : (r : Row) → Has later_added r → Has came_both r
  added_later r h = has_right (rows_without added later_removed) later_added r h

  -- what was there did not come first
  not_came : (r : Row) → IsRow a r → Has added r → ⊥
  not_came r o h = (first.came r h).1 o

  back_both : (r : Row) → Has went_both r → IsRow c r → Has came_both r
  back_both r h n = elim (removed_cases r h) [
    | inl g ↦ elim (later.comes r n) [ inl m ↦ absurd ((first.went r g).1 m) | inr l ↦ added_later r l ]
    | inr g ↦ added_later r (later.back r g.0 n)
  ]

  stay_both : (r : Row) → IsRow a r → IsRow c r ⊎ Has went_both r
  stay_both r o = elim (first.stay r o) [
    | inr g ↦ inr (removed_first r g)
    | inl m ↦ elim (later.stay r m) [ inl n ↦ inl n | inr g ↦ inr (removed_later r g (not_came r o)) ]
  ]

  came_now : (r : Row) → Has came_both r → IsRow c r × (r.system_start ≡ t)
  came_now r h = elim (added_cases r h) [
    | inr l ↦ later.came r l
    | inl g ↦ elim (later.stay r (first.came r g.0).0) [ inl n ↦ (n, born r g.0) | inr x ↦ absurd (g.1 x) ]
  ]

  anew_both : (r : Row) → Has came_both r → IsRow a r → Has went_both r
  anew_both r h o = elim (added_cases r h) [
    | inl g ↦ absurd (not_came r o g.0)
    | inr l ↦ elim (first.stay r o) [
      | inr g ↦ removed_first r g
      | inl m ↦ removed_later r (later.anew r l m) (not_came r o)
    ]
  ]

  comes_both : (r : Row) → IsRow c r → IsRow a r ⊎ Has came_both r
  comes_both r n = elim (later.comes r n) [
    | inr l ↦ inr (added_later r l)
    | inl m ↦ elim (first.comes r m) [
      | inl o ↦ inl o
      | inr h ↦ elim (has_or_not later_removed r) [
        | inl g ↦ inr (added_later r (later.back r g n))
        | inr g ↦ inr (added_first r h g)
      ]
    ]
  ]

  pub turned_both : IsTurned t a c went_both came_both
  turned_both = record {
    went = λ r h. elim (removed_cases r h) [ inl g ↦ (first.went r g).0 | inr g ↦ was r g.0 g.1 ];
    back = back_both;
    stay = stay_both;
    came = came_now;
    anew = anew_both;
    comes = comes_both;
    removed_once = apart_append removed (rows_without later_removed added) first.removed_once (apart_without later_removed added later.removed_once) (λ r h g. (first.went r h).1 (later.went r (without_has later_removed added r g).0));
    added_once = apart_append (rows_without added later_removed) later_added (apart_without added later_removed first.added_once) later.added_once (λ r h g. let w = without_has added later_removed r h in w.1 (later.anew r g (first.came r w.0).0));
  }

-- where each row of the older table was born before, that is what was touched
pub whole : (t : ℕ) (old new : Table) (removed added : List Row) → IsTurned t old new removed added → ((r : Row) → IsRow old r → r.system_start < t) → IsTouched old new removed added
whole t old new removed added turned before = record {
  went = λ r h. (turned.went r h, λ n. let c = turned.came r (turned.back r h n) in let b = before r (turned.went r h) in let e = c.1 in absurd (omega arith));
  stay = turned.stay;
  came = λ r h. ((turned.came r h).0, λ o. let e = (turned.came r h).1 in let b = before r o in absurd (omega arith));
  comes = turned.comes;
  removed_once = turned.removed_once;
  added_once = turned.added_once;
}
