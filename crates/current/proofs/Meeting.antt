-- The rows of a key that have a day of a period: they stand together among its rows.
use Rattle.std.proofs.Common.{◌≡◌, ℕ, zero, suc, ◌+◌, ◌-◌, ◌<◌, ◌≤◌, ◌⊎◌, Bool, true, false, not, ◌&&◌, ◌||◌, leb-true, ltb-true, List, [], ◌∷◌, ◌++◌, map, filter, length, get_or, refl, sym, ap, ◌∙◌, subst, inl, inr, arith}
use Rattle.std.specs.Prelude.{find, All, nat_lt}
use Rattle.std.specs.List.{list_any, list_all, range_with_len}
use Rattle.std.proofs.lemmas.Bool.{cases_Bool, and_parts, and_from, lt-ltb}
use Rattle.std.proofs.lemmas.List.Kept.{AllPairs-cons}
use Rattle.model.specs.Tables.{Period, Row, inside}
use Rattle.model.specs.Periods.{StartInOrder, is_free}
use Rattle.model.specs.Statements.{days_of}
use Rattle.overlaps.specs.Index.{AreApart, AreSharing, shares_day}
use Rattle.rowlaws.specs.Rows.{Has}
use Rattle.rowlaws.proofs.Anys.{has_any}
use Rattle.rowlaws.proofs.Members.{map_has}
use Rattle.rowlaws.proofs.RowFacts.{both}
use Rattle.overlaps.proofs.Sharing.{tail_apart}
use Rattle.current.specs.declared.row.Row.{Row as Declared}
use Rattle.current.specs.Rows.{row_of}
use Rattle.current.specs.Reads.{total}
use Rattle.current.proofs.Placed.{days_of_row, Sharing}

pub twice : (rows : List Declared) → map (λ r. r.period) (map row_of rows) ≡ map days_of_row rows
twice [] = refl
twice (r ∷ rows) = ap (λ ps. days_of_row r ∷ ps) (twice rows)

-- ---- periods that are apart

pub starts_in_order : (rows : List Declared) → AreApart (map days_of_row rows) → StartInOrder (map days_of_row rows)
starts_in_order [] apart = λ i j d l m. absurd (omega arith)
starts_in_order (r ∷ rows) apart =
    let some = r.period.ordered in
    let later : All (λ q. r.period.start.number ≤ q.start) (map days_of_row rows) = λ k d l. let after = apart 0 (suc k) d (omega arith) (omega arith) in omega (arith, some, after) in
    AllPairs-cons (λ p q. p.start ≤ q.start) (days_of_row r) (map days_of_row rows) later (starts_in_order rows (tail_apart days_of_row r rows apart))

all_front : (P : Period → Type 0) (xs ys : List Declared) → All P (map days_of_row (xs ++ ys)) → All P (map days_of_row xs)
all_front P [] ys h = λ k d l. absurd (omega arith)
all_front P (x ∷ xs) ys h = λ k d l. elim k as (λ m. m < length (map days_of_row (x ∷ xs)) → P (get_or (map days_of_row (x ∷ xs)) m d)) [
  | zero ↦ λ some. h 0 d (omega arith)
  | suc m ↦ λ some. all_front P xs ys (λ j e less. h (suc j) e (omega arith)) m d (omega arith)
] l

apart_front : (xs ys : List Declared) → AreApart (map days_of_row (xs ++ ys)) → AreApart (map days_of_row xs)
apart_front [] ys apart = λ i j d l m. absurd (omega arith)
apart_front (x ∷ xs) ys apart =
    let later : All (λ q. x.period.end.number ≤ q.start) (map days_of_row (xs ++ ys)) = λ k d l. apart 0 (suc k) d (omega arith) (omega arith) in
    AllPairs-cons (λ p q. p.end ≤ q.start) (days_of_row x) (map days_of_row xs) (all_front (λ q. x.period.end.number ≤ q.start) xs ys later) (apart_front xs ys (tail_apart days_of_row x (xs ++ ys) apart))

apart_back : (xs ys : List Declared) → AreApart (map days_of_row (xs ++ ys)) → AreApart (map days_of_row ys)
apart_back [] ys apart = apart
apart_back (x ∷ xs) ys apart = apart_back xs ys (tail_apart days_of_row x (xs ++ ys) apart)

-- ---- a test that passes in a part alone

none_front : {A : Type 0} (f : A → Bool) (xs ys : List A) → list_any f xs ≡ false → list_any f (xs ++ ys) ≡ list_any f ys
none_front f [] ys h = refl
none_front f (x ∷ xs) ys h = elim (cases_Bool (f x)) [
  | inl y ↦ let e : list_any f (x ∷ xs) ≡ true = rw y refl in absurd (both e h)
  | inr n ↦ let e : list_any f (x ∷ xs) ≡ list_any f xs = rw n refl in rw n (none_front f xs ys (sym e ∙ h))
]

pub none_back : {A : Type 0} (f : A → Bool) (xs ys : List A) → list_any f ys ≡ false → list_any f (xs ++ ys) ≡ list_any f xs
none_back f [] ys h = h
none_back f (x ∷ xs) ys h = ap (λ b. f x || b) (none_back f xs ys h)

any_of_days : (test : Period → Bool) (rows : List Declared) → list_any test (map days_of_row rows) ≡ list_any (λ r. test (days_of_row r)) rows
any_of_days test [] = refl
any_of_days test (r ∷ rows) = ap (λ b. test (days_of_row r) || b) (any_of_days test rows)

has_parts : (xs ys : List Declared) (r : Row) → Has (map row_of (xs ++ ys)) r → Has (map row_of xs) r ⊎ Has (map row_of ys) r
has_parts [] ys r h = inr h
has_parts (x ∷ xs) ys r (inl e) = inl (inl e)
has_parts (x ∷ xs) ys r (inr h) = elim (has_parts xs ys r h) [ inl g ↦ inl (inr g) | inr g ↦ inr g ]

has_front : (xs ys : List Declared) (r : Row) → Has (map row_of xs) r → Has (map row_of (xs ++ ys)) r
has_front [] ys r h = absurd h
has_front (x ∷ xs) ys r (inl e) = inl e
has_front (x ∷ xs) ys r (inr h) = inr (has_front xs ys r h)

has_back : (xs ys : List Declared) (r : Row) → Has (map row_of ys) r → Has (map row_of (xs ++ ys)) r
has_back [] ys r h = h
has_back (x ∷ xs) ys r h = inr (has_back xs ys r h)

-- what those come to that pass
total_back : (cost : Row → ℕ) (test : Row → Bool) (xs ys : List Declared) → total cost (filter test (map row_of ys)) ≤ total cost (filter test (map row_of (xs ++ ys)))
total_back cost test [] ys = omega arith
total_back cost test (x ∷ xs) ys =
    let rest = total_back cost test xs ys in
    elim (cases_Bool (test (row_of x))) [ inl y ↦ rw y (omega (arith, rest)) | inr n ↦ rw n rest ]

total_front : (cost : Row → ℕ) (test : Row → Bool) (xs ys : List Declared) → list_all (λ x. test (row_of x)) xs ≡ true → total cost (map row_of xs) ≤ total cost (filter test (map row_of (xs ++ ys)))
total_front cost test [] ys h = omega arith
total_front cost test (x ∷ xs) ys h =
    let ps = and_parts (test (row_of x)) (list_all (λ z. test (row_of z)) xs) h in
    let rest = total_front cost test xs ys ps.1 in
    rw ps.0 (omega (arith, rest))

all_same : {A : Type 0} (f g : A → Bool) (xs : List A) → ((x : A) → f x ≡ g x) → list_all f xs ≡ list_all g xs
all_same f g [] h = refl
all_same f g (x ∷ xs) h = ap (λ b. b && list_all f xs) (h x) ∙ ap (λ b. g x && b) (all_same f g xs h)

-- ---- the part that has a day of a period

module _ (law : Sharing) (p : Period) (some : p.start < p.end) where
  has_day : (d : ℕ) (rows : List Declared) → p.start ≤ d → d < p.end → list_any (λ r. shares_day p (days_of_row r)) rows ≡ false → list_any (λ r. inside (days_of_row r) d) rows ≡ false
  has_day d [] a b h = refl
  has_day d (r ∷ rows) a b h = elim (cases_Bool (shares_day p (days_of_row r))) [
    | inl y ↦ let e : list_any (λ x. shares_day p (days_of_row x)) (r ∷ rows) ≡ true = rw y refl in absurd (both e h)
    | inr n ↦
        let e : list_any (λ x. shares_day p (days_of_row x)) (r ∷ rows) ≡ list_any (λ x. shares_day p (days_of_row x)) rows = rw n refl in
        let rest = has_day d rows a b (sym e ∙ h) in
        elim (cases_Bool (inside (days_of_row r) d)) [
          | inr m ↦ rw m rest
          | inl m ↦
              let ps = and_parts _ _ m in
              let from : r.period.start.number ≤ d = leb-true _ _ ps.0 in
              let to : d < r.period.end.number = ltb-true _ _ ps.1 in
              let yes : shares_day p (days_of_row r) ≡ true = law p (days_of_row r) some r.period.ordered ∙ and_from _ _ (lt-ltb r.period.start.number p.end (omega (arith, from))) (lt-ltb p.start r.period.end.number (omega (arith, to))) in
              absurd (both yes n)
        ]
  ]

  module _ (items found : List Declared) (place : ℕ) (s : AreSharing days_of_row p items place found) where
    pub met_apart : AreApart (map days_of_row items) → AreApart (map days_of_row found)
    met_apart apart = apart_front found s.after (apart_back s.before (found ++ s.after) (subst (λ (rows : List Declared). AreApart (map days_of_row rows)) s.all apart))

    pub met_free : (d : ℕ) → p.start ≤ d → d < p.end → is_free (map days_of_row found) d ≡ is_free (map days_of_row items) d
    met_free d a b =
        let test : Declared → Bool = λ r. inside (days_of_row r) d in
        let back = none_back test found s.after (has_day d s.after a b s.none_after) in
        let front = none_front test s.before (found ++ s.after) (has_day d s.before a b s.none_before) in
        ap not (any_of_days (λ q. inside q d) found ∙ sym back ∙ sym front ∙ ap (list_any test) (sym s.all) ∙ sym (any_of_days (λ q. inside q d) items))

    pub met_among : (r : Row) → Has (map row_of found) r → Has (map row_of items) r
    met_among r h = subst (λ (rows : List Declared). Has (map row_of rows) r) (sym s.all) (has_back s.before (found ++ s.after) r (has_front found s.after r h))

    not_past : (rows : List Declared) (r : Row) → list_any (λ x. shares_day p (days_of_row x)) rows ≡ false → Has (map row_of rows) r → r.period.start < p.end → p.start < r.period.end → ⊥
    not_past rows r none h a b =
        let x = map_has row_of rows r h in
        let start = ap (λ (z : Row). z.period.start) x.2 in
        let end = ap (λ (z : Row). z.period.end) x.2 in
        let yes : shares_day p (days_of_row x.0) ≡ true = law p (days_of_row x.0) some x.0.period.ordered ∙ and_from _ _ (lt-ltb x.0.period.start.number p.end (omega (arith, start, a))) (lt-ltb p.start x.0.period.end.number (omega (arith, end, b))) in
        both (has_any (λ z. shares_day p (days_of_row z)) rows x.0 x.1 yes) none

    pub met_each : (r : Row) → Has (map row_of items) r → r.period.start < p.end → p.start < r.period.end → Has (map row_of found) r
    met_each r h a b = elim (has_parts s.before (found ++ s.after) r (subst (λ (rows : List Declared). Has (map row_of rows) r) s.all h)) [
      | inl g ↦ absurd (not_past s.before r s.none_before g a b)
      | inr g ↦ elim (has_parts found s.after r g) [ inl f ↦ f | inr f ↦ absurd (not_past s.after r s.none_after f a b) ]
    ]

    -- what they come to, among all that have a day of the period
    pub met_total : (cost : Row → ℕ) → total cost (map row_of found) ≤ total cost (filter (λ r. nat_lt r.period.start p.end && nat_lt p.start r.period.end) (map row_of items))
    met_total cost =
        let test : Row → Bool = λ r. nat_lt r.period.start p.end && nat_lt p.start r.period.end in
        let each : list_all (λ x. test (row_of x)) found ≡ true = all_same (λ x. test (row_of x)) (λ x. shares_day p (days_of_row x)) found (λ x. sym (law p (days_of_row x) some x.period.ordered)) ∙ s.each in
        let front = total_front cost test found s.after each in
        let back = total_back cost test s.before (found ++ s.after) in
        subst (λ (rows : List Declared). total cost (map row_of found) ≤ total cost (filter test (map row_of rows))) (sym s.all) (omega (arith, front, back))

-- ---- the first day that is free

alike_from : (f g : ℕ → Bool) (s n : ℕ) → ((d : ℕ) → s ≤ d → d < s + n → f d ≡ g d) → find f (range_with_len s n) ≡ find g (range_with_len s n)
alike_from f g s zero h = refl
alike_from f g s (suc n) h =
    let rest = alike_from f g (s + 1) n (λ d a b. h d (omega arith) (omega arith)) in
    elim (cases_Bool (f s)) [
      | inl y ↦ let z : g s ≡ true = sym (h s (omega arith) (omega arith)) ∙ y in rw (y, z) refl
      | inr y ↦ let z : g s ≡ false = sym (h s (omega arith) (omega arith)) ∙ y in rw (y, z) rest
    ]

pub find_alike : (f g : ℕ → Bool) (p : Period) → p.start < p.end → ((d : ℕ) → p.start ≤ d → d < p.end → f d ≡ g d) → find f (days_of p) ≡ find g (days_of p)
find_alike f g p some h = alike_from f g p.start (p.end - p.start) (λ d a b. h d a (omega arith))
