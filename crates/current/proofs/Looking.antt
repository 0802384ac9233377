-- A search for the first day without a parent: what it has looked at.
use Rattle.std.proofs.Common.{leb, ltb, ◌++◌, ◌&&◌, ◌||◌, Result, Ok, Err, ◌≡◌, ℕ, zero, suc, ◌+◌, ◌-◌, ◌<◌, ◌≤◌, ◌==◌, ◌⊎◌, inl, inr, Bool, true, List, [], ◌∷◌, map, drop, length, get_or, Option, Some, None, option_map, refl, sym, ap, ◌∙◌, subst, arith, Ordering}
use Rattle.std.proofs.lemmas.Bool.{cases_Bool, cases_lt, and_parts, leb-true, ltb-true, eqb-true}
use Rattle.std.specs.Prelude.{find, ◌↔◌, IsOk, IfOk, IfSome, is_some}
use Rattle.std.specs.Result.{result_ok}
use Rattle.std.specs.BTreeMap.{IsOrdered}
use Rattle.std.specs.BTreeSet.{insert_key}
use Rattle.std.specs.List.{list_any}
use Rattle.std.specs.Ordering.{match_ordering, is_eq}
use Rattle.std.specs.declared.cmp.Ordering.TheVariants.{Less, Equal, Greater}
use Rattle.model.specs.declared.value.Value.{Value}
use Rattle.model.specs.Values.{key_cmp, same_key}
use Rattle.model.specs.Tables.{Period, Row, inside}
use Rattle.model.specs.Periods.{period_of, is_free}
use Rattle.model.specs.Statements.{days_of}
use Rattle.model.specs.Transactions.{Reference, Place}
use Rattle.rowlaws.specs.Rows.{Has}
use Rattle.rowlaws.specs.Covering.{missing, periods_of, place_at}
use Rattle.rowlaws.specs.Losing.{lost_days}
use Rattle.rowlaws.specs.Suspects.{earlier, rows_losing}
use Rattle.rowlaws.specs.Touching.{same_row}
use Rattle.rowlaws.proofs.Anys.{any_has, has_any}
use Rattle.rowlaws.proofs.Keys.{key_same, key_itself, same_key-true}
use Rattle.rowlaws.proofs.Least.{IsLeast, find_day}
use Rattle.rowlaws.proofs.Members.{filter_has, has_cases, range_has}
use Rattle.period.specs.declared.day.Day.{Day}
use Rattle.period.specs.declared.period.Period.{Period as DeclaredPeriod}
use Rattle.rowlaws.proofs.RowFacts.{both}
use Rattle.overlaps.specs.Key.{same_key-ties}
use Rattle.current.specs.declared.row.Row.{Row as Declared}
use Rattle.current.specs.declared.suspects.Lost.{Lost}
use Rattle.current.specs.declared.suspects.Search.{Search}
use Rattle.current.specs.Rows.{row_of}
use Rattle.current.specs.declared.references.Place.{Place as Held}
use Rattle.current.specs.Orphans.{place_of}
use Rattle.current.specs.ByKey.{Map, rows_in, strands_of, in_strand}
use Rattle.current.specs.Suspects.{IsIn, IsLost, IsFirstOf, rows_by, references_by, LooksAt}
use Rattle.current.proofs.Lists.{drop_here, drop_none, no_items}
use Rattle.current.proofs.Planning.{Entry}
use Rattle.current.proofs.Undoing.{not_in_strand}

-- ---- the rows before a place of a walk are looked at

abbrev pub LooksTo : Search → (Row → Type 0) → (Row → Type 0) → Option Place → Option Place → Type 0
LooksTo s wanted left old new =
    (picked : List Row) → IsFirstOf (references_by s) (rows_by s) s.place picked old →
    (more : List Row) × IsFirstOf (references_by s) (rows_by s) s.place more new × ((r : Row) → Has picked r → Has more r) × ((r : Row) → wanted r → Has more r ⊎ left r)

module _ (s : Search) (wanted : Row → Type 0) where
  pub looks_first : (left : Row → Type 0) (x : Option Place) → ((r : Row) → wanted r → left r) → LooksTo s wanted left x x
  looks_first left x all picked is = (picked, is, (λ r h. h), (λ r w. inr (all r w)))

  -- these are looked at, and those are left
  pub looks_then : (left next found : Row → Type 0) (x y z : Option Place) → LooksTo s wanted left x y → LooksAt s found y z → ((r : Row) → wanted r → left r → found r ⊎ next r) → LooksTo s wanted next x z
  looks_then left next found x y z first second by picked is =
      let a = first picked is in
      let b = second a.0 a.1 in (
        b.0,
        b.1,
        (λ r h. b.2 r (a.2 r h)),
        (λ r w. elim (a.3 r w) [ inl h ↦ inl (b.2 r h) | inr l ↦ elim (by r w l) [ inl f ↦ inl (b.3 r f) | inr n ↦ inr n ] ]),
      )

  -- nothing is looked at
  pub looks_past : (left next : Row → Type 0) (x y : Option Place) → LooksTo s wanted left x y → ((r : Row) → wanted r → left r → next r) → LooksTo s wanted next x y
  looks_past left next x y first by picked is =
      let a = first picked is in
      (a.0, a.1, a.2, (λ r w. elim (a.3 r w) [ inl h ↦ inl h | inr l ↦ inr (by r w l) ]))

  pub looks_last : (left : Row → Type 0) (x y : Option Place) → LooksTo s wanted left x y → ((r : Row) → wanted r → left r → ⊥) → LooksAt s wanted x y
  looks_last left x y first none picked is =
      let a = first picked is in
      (a.0, a.1, a.2, (λ r w. elim (a.3 r w) [ inl h ↦ h | inr l ↦ absurd (none r w l) ]))

  pub looks_none : (x : Option Place) → ((r : Row) → wanted r → ⊥) → LooksAt s wanted x x
  looks_none x none picked is = (picked, is, (λ r h. h), (λ r w. absurd (none r w)))

  pub looks_at_more : (found : Row → Type 0) (x y : Option Place) → LooksAt s found x y → ((r : Row) → wanted r → found r) → LooksAt s wanted x y
  looks_at_more found x y look by picked is = let a = look picked is in (a.0, a.1, a.2, (λ r w. a.3 r (by r w)))

-- one row is looked at
pub looks_at_row : (s : Search) (row : Row) (x y : Option Place) → Has (rows_by s s.place) row → y ≡ earlier (place_at s.place row (missing (references_by s) (rows_by s) s.place row) None) x → LooksAt s (λ r. r ≡ row) x y
looks_at_row s row x y has e picked is = (
  row ∷ picked,
  ((λ r h. elim h [ inl same ↦ subst (Has (rows_by s s.place)) (sym same) has | inr g ↦ is.0 r g ]), e ∙ ap (earlier (place_at s.place row (missing (references_by s) (rows_by s) s.place row) None)) is.1),
  (λ r h. inr h),
  (λ r same. inl same),
)

-- ---- rows of a walk

-- the row at the place is this one, or a later one
pub next_row : (rows : List Declared) (i : ℕ) (x : Declared) → i < length rows → x ≡ get_or rows i x → (r : Row) → Has (map row_of (drop i rows)) r → (r ≡ row_of x) ⊎ Has (map row_of (drop (i + 1) rows)) r
next_row rows i x l e r h = subst (λ (ys : List Declared). Has (map row_of ys) r) (drop_here rows i x l e) h

pub none_after : (rows : List Declared) (i : ℕ) → length rows ≤ i → (r : Row) → Has (map row_of (drop i rows)) r → ⊥
none_after rows i l r h = subst (λ (ys : List Declared). Has (map row_of ys) r) (drop_none rows i l) h

pub row_here : (rows : List Declared) (i : ℕ) (x : Declared) → i < length rows → x ≡ get_or rows i x → Has (map row_of rows) (row_of x)
row_here [] i x l e = absurd (omega arith)
row_here (y ∷ rows) zero x l e = inl (ap row_of e)
row_here (y ∷ rows) (suc i) x l e = inr (row_here rows i x (omega arith) e)

-- and of the keys in turn
pub next_strand : (e : Entry) (rest es : List Entry) → es ≡ e ∷ rest → (r : Row) → Has (rows_in es) r → Has (map row_of e.1) r ⊎ Has (rows_in rest) r
next_strand e rest es split r h = parts (map row_of e.1) (subst (λ (xs : List Entry). Has (rows_in xs) r) split h)
  where
    parts : (xs : List Row) → Has (map row_of e.1 ++ rows_in rest) r → Has (map row_of e.1) r ⊎ Has (rows_in rest) r
    parts xs g = has_cases (map row_of e.1) (rows_in rest) r g

-- ---- keys in a set

abbrev Keys : Type 0
Keys = List (List Value)

key_put : (k x : List Value) (xs : Keys) (o : Ordering) → key_cmp k x ≡ o → Has (insert_key key_cmp xs k) k → Has (match_ordering o (k ∷ x ∷ xs) (x ∷ xs) (x ∷ insert_key key_cmp xs k)) k
key_put k x xs Less e h = inl refl
key_put k x xs Equal e h = inl (key_same k x e)
key_put k x xs Greater e h = inr h

pub put_key : (k : List Value) (xs : Keys) → Has (insert_key key_cmp xs k) k
put_key k [] = inl refl
put_key k (x ∷ xs) = key_put k x xs (key_cmp k x) refl (put_key k xs)

key_kept : (k l x : List Value) (xs : Keys) (o : Ordering) → Has (x ∷ xs) l → (Has xs l → Has (insert_key key_cmp xs k) l) → Has (match_ordering o (k ∷ x ∷ xs) (x ∷ xs) (x ∷ insert_key key_cmp xs k)) l
key_kept k l x xs Less h more = inr h
key_kept k l x xs Equal h more = h
key_kept k l x xs Greater (inl e) more = inl e
key_kept k l x xs Greater (inr h) more = inr (more h)

pub kept_key : (k l : List Value) (xs : Keys) → Has xs l → Has (insert_key key_cmp xs k) l
kept_key k l [] h = absurd h
kept_key k l (x ∷ xs) h = key_kept k l x xs (key_cmp k x) h (kept_key k l xs)

or_kept : (k l x : List Value) (xs : Keys) (o : Ordering) → Has (match_ordering o (k ∷ x ∷ xs) (x ∷ xs) (x ∷ insert_key key_cmp xs k)) l → (Has (insert_key key_cmp xs k) l → (l ≡ k) ⊎ Has xs l) → (l ≡ k) ⊎ Has (x ∷ xs) l
or_kept k l x xs Less (inl e) more = inl e
or_kept k l x xs Less (inr h) more = inr h
or_kept k l x xs Equal h more = inr h
or_kept k l x xs Greater (inl e) more = inr (inl e)
or_kept k l x xs Greater (inr h) more = elim (more h) [ inl e ↦ inl e | inr g ↦ inr (inr g) ]

-- and no others came
pub put_or_kept : (k l : List Value) (xs : Keys) → Has (insert_key key_cmp xs k) l → (l ≡ k) ⊎ Has xs l
put_or_kept k l [] (inl e) = inl e
put_or_kept k l [] (inr h) = absurd h
put_or_kept k l (x ∷ xs) h = or_kept k l x xs (key_cmp k x) h (put_or_kept k l xs)

-- a key of the set is found
pub key_found : (k : List Value) (xs : Keys) → Has xs k → list_any (λ x. is_eq (key_cmp k x)) xs ≡ true
key_found k xs h = has_any (λ x. is_eq (key_cmp k x)) xs k h (ap is_eq (key_itself k))

-- ---- what is lost, row by row

-- each lost day of the rows before the i-th is there
abbrev pub IsLostTo : List Declared → List Row → ℕ → Lost → Type 0
IsLostTo rows more i lost = (row : Row) (d : ℕ) → Has (map row_of rows) row → Has (lost_days more row) d → IsLost lost row.key d ⊎ Has (map row_of (drop i rows)) row

pub lost_then : (rows : List Declared) (more : List Row) (i : ℕ) (x : Declared) → i < length rows → x ≡ get_or rows i x → (lost next : Lost) → IsLostTo rows more i lost
    → ((key : List Value) (d : ℕ) → IsLost lost key d → IsLost next key d) → ((d : ℕ) → Has (lost_days more (row_of x)) d → IsLost next x.key d) → IsLostTo rows more (i + 1) next
lost_then rows more i x l e lost next h old new row d has days = elim (h row d has days) [
  | inl there ↦ inl (old row.key d there)
  | inr g ↦ elim (next_row rows i x l e row g) [
    | inl same ↦ inl (subst (λ (r : Row). IsLost next r.key d) (sym same) (new d (subst (λ (r : Row). Has (lost_days more r) d) same days)))
    | inr later ↦ inr later
  ]
]

pub lost_all : (rows : List Declared) (more : List Row) (i : ℕ) (lost : Lost) → length rows ≤ i → IsLostTo rows more i lost → (row : Row) (d : ℕ) → Has (map row_of rows) row → Has (lost_days more row) d → IsLost lost row.key d
lost_all rows more i lost l h row d has days = elim (h row d has days) [ inl there ↦ there | inr g ↦ absurd (none_after rows i l row g) ]

pub lost_day_free : (more : List Row) (row : Row) (d : ℕ) → Has (lost_days more row) d → Has (days_of row.period) d × (is_free (periods_of more row.key) d ≡ true)
lost_day_free more row d h = filter_has (is_free (periods_of more row.key)) (days_of row.period) d h

-- ---- a row that stands is found

pub there_found : (m : Map) → IsOrdered key_cmp m → ((k : List Value) → in_strand k 0 (strands_of m k) ≡ true) → (row : Row) → Has (rows_in m.entries) row → list_any (same_row row) (strands_of m row.key) ≡ true
there_found m ordered in_strands row h = elim (cases_Bool (list_any (same_row row) (strands_of m row.key))) [
  | inl y ↦ y
  | inr n ↦ absurd (not_in_strand m ordered in_strands row n h)
]

-- what a call looks at
pub ok_looks : {E : Type 0} (s : Search) (found wanted : Row → Type 0) (x : Option Place) (r : Result (Option Held) E) → IfOk r (λ now. LooksAt s found x (option_map place_of now)) → ((q : Row) → wanted q → found q) → IfOk r (λ now. LooksAt s wanted x (option_map place_of now))
ok_looks s found wanted x (Ok now) look by = looks_at_more s wanted found x (option_map place_of now) look by
ok_looks s found wanted x (Err e) look by = look

-- a row that has a day that a key lost with a row that went
pub losing_parts : (f : Reference) (rows more : List Row) (q r : Row) → Has (rows_losing f rows more q) r → Has rows r × (f.refers r.key r.values ≡ q.key) × (d : ℕ) × Has (lost_days more q) d × (r.period.start ≤ d) × (d < r.period.end)
losing_parts f rows more q r h =
    let x = filter_has (λ (x : Row). same_key (f.refers x.key x.values) q.key && list_any (inside x.period) (lost_days more q)) rows r h in
    let parts = and_parts (same_key (f.refers r.key r.values) q.key) (list_any (inside r.period) (lost_days more q)) x.1 in
    let d = any_has (inside r.period) (lost_days more q) parts.1 in
    let day = and_parts (leb r.period.start d.0) (ltb d.0 r.period.end) d.2 in
    (x.0, same_key-true (f.refers r.key r.values) q.key parts.0, d.0, d.1, leb-true _ _ day.0, ltb-true _ _ day.1)

pub in_span : (p : Period) (r : Row) (d : ℕ) → (p.start ≤ d) × (d < p.end) → r.period.start ≤ d → d < r.period.end → (r.period.start < p.end) × (p.start < r.period.end)
in_span p r d x a b = let c = x.0 in let e = x.1 in (omega (arith, a, e), omega (arith, b, c))

pub ok_map : {A E : Type 0} {P Q : A → Type 0} (r : Result A E) → ((a : A) → P a → Q a) → IfOk r P → IfOk r Q
ok_map (Ok a) f h = f a h
ok_map (Err e) f h = h

-- ---- days of a period that pass a test

day_of : (p : Period) (d : ℕ) → Has (days_of p) d → (p.start ≤ d) × (d < p.end)
day_of p d h =
    let r = range_has p.start (p.end - p.start) d h in
    let a : p.start ≤ d = r.0 in
    let b : d < p.start + (p.end - p.start) = r.1 in
    (a, omega (arith, a, b))

least_of : (f : ℕ → Bool) (p : Period) (d : ℕ) → Has (days_of p) d → IsLeast f p.start p.end (find f (days_of p))
least_of f p d h = let x = day_of p d h in let a = x.0 in let b = x.1 in find_day f p (omega (arith, a, b))

pub none_free : (f : ℕ → Bool) (p : Period) (d : ℕ) (o : Option ℕ) → o ≡ find f (days_of p) → o ≡ None → Has (days_of p) d → f d ≡ true → ⊥
none_free f p d o e none h y = let x = day_of p d h in both y (subst (IsLeast f p.start p.end) (sym e ∙ none) (least_of f p d h) d x.0 x.1)

pub from_first : (f : ℕ → Bool) (p : Period) (d start : ℕ) (o : Option ℕ) → o ≡ find f (days_of p) → o ≡ Some start → Has (days_of p) d → f d ≡ true → (start ≤ d) × (p.start ≤ d) × (d < p.end)
from_first f p d start o e some h y =
    let x = day_of p d h in
    let least : IsLeast f p.start p.end (Some start) = subst (IsLeast f p.start p.end) (sym e ∙ some) (least_of f p d h) in
    elim (cases_lt d start) [ inl l ↦ absurd (both y (least.3 d x.0 l)) | inr g ↦ (g, x.0, x.1) ]

pub period_made : {E : Type 0} (r : Result DeclaredPeriod E) (o : Option DeclaredPeriod) (start end : Day) (d : ℕ) → o ≡ result_ok r → IsOk r ↔ (start.number < end.number) → IfOk r (λ p. (p.start ≡ start) × (p.end ≡ end)) → start.number ≤ d → d < end.number → IsIn o d
period_made (Ok p) o start end d e is value a b = subst (λ x. IsIn x d) (sym e) (subst (λ (x : Day). x.number ≤ d) (sym value.0) a, subst (λ (x : Day). d < x.number) (sym value.1) b)
period_made (Err x) o start end d e is value a b = absurd (both (is.1 (omega (arith, a, b))) refl)

-- the day that is found is one of the period's
pub day_found : (f : ℕ → Bool) (p : Period) → p.start < p.end → (d : ℕ) (o : Option ℕ) → o ≡ find f (days_of p) → o ≡ Some d → (p.start ≤ d) × (is_some (find f (days_of p)) ≡ true)
day_found f p full d o e is =
    let least : IsLeast f p.start p.end (Some d) = subst (IsLeast f p.start p.end) (sym e ∙ is) (find_day f p (omega (arith, full))) in
    (least.0, ap is_some (sym e ∙ is))

pub period_within : {E : Type 0} (r : Result DeclaredPeriod E) (o : Option DeclaredPeriod) (start end : Day) (p : DeclaredPeriod) (f : ℕ → Bool) → o ≡ result_ok r → IfOk r (λ q. (q.start ≡ start) × (q.end ≡ end)) → p.start.number ≤ start.number → end.number ≤ p.end.number → is_some (find f (days_of (period_of p))) ≡ true
    → IfSome o (λ s. (p.start.number ≤ s.start.number) × (s.end.number ≤ p.end.number) × (is_some (find f (days_of (period_of p))) ≡ true))
period_within (Ok q) o start end p f e value a b some = subst (λ x. IfSome x (λ s. (p.start.number ≤ s.start.number) × (s.end.number ≤ p.end.number) × (is_some (find f (days_of (period_of p))) ≡ true))) (sym e)
    (subst (λ (x : Day). p.start.number ≤ x.number) (sym value.0) a, subst (λ (x : Day). x.number ≤ p.end.number) (sym value.1) b, some)
period_within (Err x) o start end p f e value a b some = subst (λ x. IfSome x (λ s. (p.start.number ≤ s.start.number) × (s.end.number ≤ p.end.number) × (is_some (find f (days_of (period_of p))) ≡ true))) (sym e) tt

-- the test by which a set is searched, and that of the same keys
abbrev pub key_among_test : List Value → List (List Value) → Bool
key_among_test k xs = list_any (λ x. is_eq (key_cmp k x)) xs

pub key_among : (k : List Value) (xs : Keys) → list_any (same_key k) xs ≡ key_among_test k xs
key_among k [] = refl
key_among k (x ∷ xs) = ap (λ b. b || list_any (same_key k) xs) (same_key-ties k x) ∙ ap (λ b. is_eq (key_cmp k x) || b) (key_among k xs)

pub none_in_strand : (e : Entry) → (length e.1 == 0) ≡ true → (r : Row) → Has (map row_of e.1) r → ⊥
none_in_strand e none r h = subst (λ (rows : List Declared). Has (map row_of rows) r) (no_items e.1 (eqb-true (length e.1) 0 none)) h
