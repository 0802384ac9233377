-- A row put in its place, and a row taken out, as the index has them.
use Rattle.std.proofs.Common.{◌≡◌, ℕ, ◌<◌, ◌≤◌, ◌==◌, ◌&&◌, ◌∙◌, Bool, true, false, not, List, [], ◌∷◌, Option, Some, None, map, filter, refl, sym, ap, subst, inl, inr, arith, rules, Bor}
use Rattle.std.specs.Prelude.{find, nat_lt, is_some, option_copied, All}
use Rattle.std.specs.List.{list_any}
use Rattle.std.proofs.lemmas.Bool.{cases_Bool, cases_lt, lt-ltb, le-ltb, ltb-true, and_left, and_parts, eqb-true}
use Rattle.std.proofs.lemmas.List.Elements.{All-cons}
use Rattle.std.proofs.lemmas.List.Kept.{AllPairs-cons}
use Rattle.std.specs.BTreeMap.{get}
use Rattle.model.specs.declared.value.Value.{Value}
use Rattle.model.specs.Values.{key_cmp, same_key}
use Rattle.model.specs.Tables.{Period, Row}
use Rattle.model.specs.Periods.{period_of}
use Rattle.overlaps.specs.Index.{AreApart, shares_day, same_period, with_item, without_period, changed_at}
use Rattle.overlaps.specs.Items.{items_in, items_of}
use Rattle.rowlaws.specs.Changes.{clashes}
use Rattle.rowlaws.specs.Touching.{same_row}
use Rattle.rowlaws.proofs.Keys.{same_key-itself}
use Rattle.rowlaws.proofs.RowFacts.{both}
use Rattle.rowlaws.proofs.SameRow.{same_row-true, same_row-itself}
use Rattle.current.specs.declared.row.Row.{Row as Declared}
use Rattle.current.specs.Rows.{row_of}
use Rattle.current.specs.ByKey.{Map, strand_in, strands_of, in_strand, with_strand, with_row}
use Rattle.current.proofs.InStrand.{begins_strand}
use Rattle.current.proofs.Changed.{same_got}

-- the days of a row
abbrev pub days_of_row : Declared → Period
days_of_row r = period_of r.period

pub strand_items : (o : Option (List Declared)) → strand_in o ≡ map row_of (items_in o)
strand_items None = refl
strand_items (Some rows) = refl

-- what changes of the items of one key changes its strand alone
pub changed_strands : (m n : Map) (key : List Value) (action : List Declared → List Declared) (rows : List Row) → items_of n ≡ changed_at key action (items_of m) → map row_of (action (items_of m key)) ≡ rows → strands_of n ≡ with_strand key rows (strands_of m)
changed_strands m n key action rows changed here = λ i k. at k i
  where
    at : (k : List Value) → strands_of n k ≡ with_strand key rows (strands_of m) k
    at k =
        strand_items (get key_cmp n k) ∙ ap (λ items. map row_of (items k)) changed ∙ elim (cases_Bool (same_key key k)) [
          | inl same ↦ rw same (ap (λ o. map row_of (action (items_in o))) (sym (same_got m key k same)) ∙ here)
          | inr other ↦ rw other (sym (strand_items (get key_cmp m k)))
        ]

-- ---- a row more

pub with_item-rows : (row : Declared) (rows : List Declared) → map row_of (with_item days_of_row row rows) ≡ with_row (row_of row) (map row_of rows)
with_item-rows row [] = refl
with_item-rows row (r ∷ rows) = elim (cases_lt r.period.start.number row.period.start.number) [
  | inl l ↦ rw (lt-ltb r.period.start.number row.period.start.number l) (ap (λ ys. row_of r ∷ ys) (with_item-rows row rows))
  | inr g ↦ rw (le-ltb r.period.start.number row.period.start.number g) refl
]

pub put_strands : (m n : Map) (row : Declared) → items_of n ≡ changed_at row.key (with_item days_of_row row) (items_of m) → strands_of n ≡ with_strand row.key (with_row (row_of row) (strands_of m row.key)) (strands_of m)
put_strands m n row changed =
    changed_strands m n row.key (with_item days_of_row row) (with_row (row_of row) (strands_of m row.key)) changed
    (with_item-rows row (items_of m row.key) ∙ ap (with_row (row_of row)) (sym (strand_items (get key_cmp m row.key))))

-- ---- what clashes

abbrev pub Sharing : Type 0
Sharing = (p q : Period) → p.start < p.end → q.start < q.end → shares_day p q ≡ (nat_lt q.start p.end && nat_lt p.start q.end)

pub clashing : Sharing → (k : List Value) (d : ℕ) (p : Period) (rows : List Declared) → p.start < p.end → in_strand k d (map row_of rows) ≡ true → list_any (clashes k p) (map row_of rows) ≡ list_any (λ r. shares_day p (days_of_row r)) rows
clashing law k d p [] some h = refl
clashing law k d p (r ∷ rows) some h =
    let b = begins_strand k d (row_of r) (map row_of rows) h in
    let same : same_key r.key k ≡ true = subst (λ l. same_key l k ≡ true) (sym b.key) (same_key-itself k) in
    rw (same, law p (days_of_row r) some b.some, clashing law k r.period.end.number p rows some b.later) refl

pub found_any : {T : Type 0} (test : T → Bool) (xs : List T) → is_some (find test xs) ≡ list_any test xs
found_any test [] = refl
found_any test (x ∷ xs) = elim (cases_Bool (test x)) [
  | inl y ↦ rw y refl
  | inr n ↦ rw n (found_any test xs)
]

pub copied_some : {A : Type 0} (o : Option (Bor A)) → is_some o ≡ is_some (option_copied o)
copied_some None = refl
copied_some (Some x) = refl

pub none_found : {T : Type 0} (test : T → Bool) (xs : List T) → list_any test xs ≡ false → find test xs ≡ None
none_found test [] h = refl
none_found test (x ∷ xs) h = elim (cases_Bool (test x)) [
  | inl y ↦ let e : list_any test (x ∷ xs) ≡ true = rw y refl in cc
  | inr n ↦ let e : list_any test (x ∷ xs) ≡ list_any test xs = rw n refl in rw n (none_found test xs (sym e ∙ h))
]

-- a strand has a clash exactly where the items of its key share a day
pub strand_clashes : Sharing → (m : Map) (k : List Value) (p : Period) → p.start < p.end → in_strand k 0 (strands_of m k) ≡ true → list_any (clashes k p) (strands_of m k) ≡ list_any (λ r. shares_day p (days_of_row r)) (items_of m k)
strand_clashes law m k p some h =
    let e = strand_items (get key_cmp m k) in
    ap (list_any (clashes k p)) e ∙ clashing law k 0 p (items_of m k) some (sym (ap (in_strand k 0) e) ∙ h)

-- ---- a row that is there is the one that shares a day with its own period

starts_later : (k : List Value) (d : ℕ) (row : Row) (rows : List Row) → in_strand k d rows ≡ true → list_any (same_row row) rows ≡ true → d ≤ row.period.start
starts_later k d row [] h there = cc
starts_later k d row (r ∷ rows) h there =
    let b = begins_strand k d r rows h in
    let from = b.from in
    let some = b.some in
    elim (cases_Bool (same_row row r)) [
      | inl y ↦ let e = ap (λ (x : Row). x.period.start) (same_row-true row r y) in omega arith
      | inr n ↦
          let e : list_any (same_row row) (r ∷ rows) ≡ list_any (same_row row) rows = rw n refl in
          let later = starts_later k r.period.end row rows b.later (sym e ∙ there) in
          omega arith
    ]

-- the row is the one that was found
abbrev pub is_found : Declared → Option Declared → Bool
is_found row None = false
is_found row (Some r) = same_row (row_of row) (row_of r)

found_there : Sharing → (k : List Value) (d : ℕ) (row : Declared) (rows : List Declared) → in_strand k d (map row_of rows) ≡ true → list_any (same_row (row_of row)) (map row_of rows) ≡ is_found row (find (λ r. shares_day (days_of_row row) (days_of_row r)) rows)
found_there law k d row [] h = refl
found_there law k d row (r ∷ rows) h =
    let b = begins_strand k d (row_of r) (map row_of rows) h in
    let full = row.period.ordered in
    let is = law (days_of_row row) (days_of_row r) full b.some in
    let rest = found_there law k r.period.end.number row rows b.later in
    elim (cases_Bool (shares_day (days_of_row row) (days_of_row r))) [
      | inl shared ↦ rw shared (elim (cases_Bool (same_row (row_of row) (row_of r))) [
        | inl y ↦ rw y refl
        | inr n ↦ rw n (elim (cases_Bool (list_any (same_row (row_of row)) (map row_of rows))) [
          | inr none ↦ none
          | inl there ↦
              let before : row.period.start.number < r.period.end.number = ltb-true row.period.start.number r.period.end.number (and_parts (nat_lt r.period.start.number row.period.end.number) (nat_lt row.period.start.number r.period.end.number) (sym is ∙ shared)).1 in
              let later : r.period.end.number ≤ row.period.start.number = starts_later k r.period.end.number (row_of row) (map row_of rows) b.later there in
              absurd (omega arith)
        ])
      ])
      | inr apart ↦
          let other : same_row (row_of row) (row_of r) ≡ false = elim (cases_Bool (same_row (row_of row) (row_of r))) [
            | inr n ↦ n
            | inl y ↦
                let some : r.period.start.number < r.period.end.number = b.some in
                let start : row.period.start.number ≡ r.period.start.number = ap (λ (x : Row). x.period.start) (same_row-true (row_of row) (row_of r) y) in
                let end : row.period.end.number ≡ r.period.end.number = ap (λ (x : Row). x.period.end) (same_row-true (row_of row) (row_of r) y) in
                let yes : shares_day (days_of_row row) (days_of_row r) ≡ true = is ∙ rw (lt-ltb r.period.start.number row.period.end.number (omega arith), lt-ltb row.period.start.number r.period.end.number (omega arith)) refl in
                absurd (both yes apart)
          ] in
          rw (apart, other) rest
    ]

pub found_in_strand : Sharing → (m : Map) (row : Declared) → in_strand row.key 0 (strands_of m row.key) ≡ true → (found : Option (Bor Declared)) → option_copied found ≡ find (λ r. shares_day (days_of_row row) (days_of_row r)) (items_of m row.key) → list_any (same_row (row_of row)) (strands_of m row.key) ≡ is_found row (option_copied found)
found_in_strand law m row h found is =
    let e = strand_items (get key_cmp m row.key) in
    ap (list_any (same_row (row_of row))) e ∙ found_there law row.key 0 row (items_of m row.key) (sym (ap (in_strand row.key 0) e) ∙ h) ∙ sym (ap (is_found row) is)

-- ---- a strand has no day twice

all_from : (k : List Value) (c d : ℕ) (rows : List Declared) → c ≤ d → in_strand k d (map row_of rows) ≡ true → All (λ (q : Period). c ≤ q.start) (map days_of_row rows)
all_from k c d [] le h = λ i e l. absurd (omega arith)
all_from k c d (r ∷ rows) le h =
    let b = begins_strand k d (row_of r) (map row_of rows) h in
    let from = b.from in
    let some = b.some in
    All-cons (λ (q : Period). c ≤ q.start) (days_of_row r) (map days_of_row rows) (omega arith) (all_from k c r.period.end.number rows (omega arith) b.later)

pub apart_in_strand : (k : List Value) (d : ℕ) (rows : List Declared) → in_strand k d (map row_of rows) ≡ true → AreApart (map days_of_row rows)
apart_in_strand k d [] h = λ i j e l m. absurd (omega arith)
apart_in_strand k d (r ∷ rows) h =
    let b = begins_strand k d (row_of r) (map row_of rows) h in
    AllPairs-cons (λ (p q : Period). p.end ≤ q.start) (days_of_row r) (map days_of_row rows) (all_from k r.period.end.number r.period.end.number rows (omega arith) b.later) (apart_in_strand k r.period.end.number rows b.later)

pub strands_apart : (m : Map) → ((k : List Value) → in_strand k 0 (strands_of m k) ≡ true) → (k : List Value) → AreApart (map days_of_row (items_of m k))
strands_apart m in_strands k = apart_in_strand k 0 (items_of m k) (sym (ap (in_strand k 0) (strand_items (get key_cmp m k))) ∙ in_strands k)

-- ---- a row less

other_start : (p q : Period) → (q.start ≡ p.start → ⊥) → same_period q p ≡ false
other_start p q differ = elim (cases_Bool (q.start == p.start)) [
  | inr n ↦ and_left _ _ n
  | inl y ↦ absurd (differ (eqb-true q.start p.start y))
]

other_row : (a b : Row) → (a.period.start ≡ b.period.start → ⊥) → same_row a b ≡ false
other_row a b differ = elim (cases_Bool (same_row a b)) [
  | inr n ↦ n
  | inl y ↦ absurd (differ (ap (λ (r : Row). r.period.start) (same_row-true a b y)))
]

abbrev IsTaken : Row → List Declared → Type 0
IsTaken row rows = map row_of (without_period days_of_row row.period rows) ≡ filter (λ r. not (same_row r row)) (map row_of rows)

rest_kept : (k : List Value) (d : ℕ) (row : Row) (rows : List Declared) → in_strand k d (map row_of rows) ≡ true → row.period.start < d → IsTaken row rows
rest_kept k d row [] h l = refl
rest_kept k d row (r ∷ rows) h l =
    let b = begins_strand k d (row_of r) (map row_of rows) h in
    let from = b.from in
    let some = b.some in
    rw (other_start row.period (days_of_row r) (λ e. absurd (omega arith)), other_row (row_of r) row (λ e. absurd (omega arith)))
    (ap (λ more. row_of r ∷ more) (rest_kept k r.period.end.number row rows b.later (omega arith)))

itself : (p : Period) → same_period p p ≡ true
itself p = search rules

pub taken : (k : List Value) (d : ℕ) (row : Row) (rows : List Declared) → in_strand k d (map row_of rows) ≡ true → list_any (same_row row) (map row_of rows) ≡ true → IsTaken row rows
taken k d row [] h there = refl
taken k d row (r ∷ rows) h there =
    let b = begins_strand k d (row_of r) (map row_of rows) h in
    let from = b.from in
    let some = b.some in
    elim (cases_Bool (same_row row (row_of r))) [
      | inl y ↦ subst (λ x. IsTaken x (r ∷ rows)) (sym (same_row-true row (row_of r) y)) (rw (itself (days_of_row r), same_row-itself (row_of r)) (rest_kept k r.period.end.number (row_of r) rows b.later some))
      | inr n ↦
          let e : list_any (same_row row) (map row_of (r ∷ rows)) ≡ list_any (same_row row) (map row_of rows) = rw n refl in
          let rest = sym e ∙ there in
          let later = starts_later k r.period.end.number row (map row_of rows) b.later rest in
          rw (other_start row.period (days_of_row r) (λ f. absurd (omega arith)), other_row (row_of r) row (λ f. absurd (omega arith)))
          (ap (λ more. row_of r ∷ more) (taken k r.period.end.number row rows b.later rest))
    ]

pub take_strands : (m n : Map) (row : Declared) → in_strand row.key 0 (strands_of m row.key) ≡ true → list_any (same_row (row_of row)) (strands_of m row.key) ≡ true → items_of n ≡ changed_at row.key (without_period days_of_row (days_of_row row)) (items_of m)
    → strands_of n ≡ with_strand row.key (filter (λ r. not (same_row r (row_of row))) (strands_of m row.key)) (strands_of m)
take_strands m n row h there changed =
    let e = strand_items (get key_cmp m row.key) in
    changed_strands m n row.key (without_period days_of_row (days_of_row row)) (filter (λ r. not (same_row r (row_of row))) (strands_of m row.key)) changed
    (taken row.key 0 (row_of row) (items_of m row.key) (sym (ap (in_strand row.key 0) e) ∙ h) (sym (ap (list_any (same_row (row_of row))) e) ∙ there) ∙ ap (filter (λ r. not (same_row r (row_of row)))) (sym e))
