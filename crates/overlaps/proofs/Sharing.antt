-- Two periods share a day where each starts before the other ends; and where the first that does stands.
use Rattle.std.proofs.Common.{◌≡◌, ℕ, zero, suc, ◌+◌, ◌-◌, ◌<◌, ◌≤◌, ◌⊎◌, inl, inr, Bool, true, false, ◌&&◌, List, [], ◌∷◌, Some, None, refl, sym, ◌∙◌, subst, ap, arith, max, map, length, get_or, if◌then◌else◌}
use Rattle.std.specs.Prelude.{find, nat_lt, nat_le, All}
use Rattle.std.specs.List.{list_any, range_with_len, prefix_len}
use Rattle.std.proofs.lemmas.Bool.{cases_lt, and_left, and_right, and_from, or_right, le-leb, lt-leb, lt-ltb, le-ltb}
use Rattle.std.proofs.lemmas.List.{length-map}
use Rattle.std.proofs.lemmas.List.Sums.{prefix_len_passes, prefix_len_stops, prefix_len-le-length}
use Rattle.std.proofs.Math.ListN.{get_or-map}
use Rattle.std.proofs.Math.Numerals.{one-add}
use Rattle.model.specs.Tables.{Period, inside}
use Rattle.overlaps.specs.Index.{AreApart, shares_day}

any_here : (f : ℕ → Bool) (s n d : ℕ) → s ≤ d → d < s + n → f d ≡ true → list_any f (range_with_len s n) ≡ true
any_here f s zero d a b y = absurd (omega arith)
any_here f s (suc n) d a b y = elim (cases_lt s d) [
  | inl l ↦ or_right (f s) (list_any f (range_with_len (s + 1) n)) (any_here f (s + 1) n d (omega arith) (omega arith) y)
  | inr g ↦ let q : d ≡ s = omega arith in rw (subst (λ x. f x ≡ true) q y) refl
]

any_nowhere : (f : ℕ → Bool) (s n : ℕ) → ((d : ℕ) → s ≤ d → d < s + n → f d ≡ false) → list_any f (range_with_len s n) ≡ false
any_nowhere f s zero none = refl
any_nowhere f s (suc n) none = rw (none s (omega arith) (omega arith)) (any_nowhere f (s + 1) n (λ d a b. none d (omega arith) (omega arith)))

outside : (q : Period) (d : ℕ) → (d < q.start) ⊎ (q.end ≤ d) → inside q d ≡ false
outside q d (inl l) = and_left _ _ (lt-leb q.start d l)
outside q d (inr g) = and_right _ _ (le-ltb d q.end g)

pub shared : (p q : Period) → p.start < p.end → q.start < q.end → q.start < p.end → p.start < q.end → shares_day p q ≡ true
shared p q some other a b =
    any_here (inside q) p.start (p.end - p.start) (max p.start q.start) (omega arith) (omega arith)
    (and_from _ _ (le-leb q.start (max p.start q.start) (omega arith)) (lt-ltb (max p.start q.start) q.end (omega arith)))

pub apart_after : (p q : Period) → q.end ≤ p.start → shares_day p q ≡ false
apart_after p q h = any_nowhere (inside q) p.start (p.end - p.start) (λ d a b. outside q d (inr (omega arith)))

pub apart_before : (p q : Period) → p.start ≤ p.end → p.end ≤ q.start → shares_day p q ≡ false
apart_before p q some h = any_nowhere (inside q) p.start (p.end - p.start) (λ d a b. outside q d (inl (omega arith)))

pub shares_day-is : (p q : Period) → p.start < p.end → q.start < q.end → shares_day p q ≡ (nat_lt q.start p.end && nat_lt p.start q.end)
shares_day-is p q some other = elim (cases_lt q.start p.end) [
  | inl a ↦ elim (cases_lt p.start q.end) [
    | inl b ↦ rw (lt-ltb q.start p.end a, lt-ltb p.start q.end b) (shared p q some other a b)
    | inr g ↦ apart_after p q g ∙ sym (and_right _ _ (le-ltb p.start q.end g))
  ]
  | inr g ↦ apart_before p q (omega arith) g ∙ sym (and_left _ _ (le-ltb q.start p.end g))
]

-- ---- where the first that ends after a day stands

-- the period has ended on the day
abbrev pub ended : {T : Type 0} → (T → Period) → ℕ → T → Bool
ended period day = λ x. nat_le (period x).end day

pub tail_apart : {T : Type 0} (period : T → Period) (x : T) (xs : List T) → AreApart (map period (x ∷ xs)) → AreApart (map period xs)
tail_apart period x xs apart = λ i j d l m. apart (suc i) (suc j) d (omega arith) (omega arith)

pub apart_at : {T : Type 0} (period : T → Period) (xs : List T) (i j : ℕ) (d : T) → AreApart (map period xs) → i < j → j < length xs → (period (get_or xs i d)).end ≤ (period (get_or xs j d)).start
apart_at period xs i j d apart l m =
    let long : length (map period xs) ≡ length xs = length-map xs period in
    let h = apart i j (period d) l (omega arith) in
    let at_i = ap (λ q. q.end) (get_or-map period xs i d) in
    let at_j = ap (λ q. q.start) (get_or-map period xs j d) in
    omega arith

-- the item at a place has ended: the first that has not stands after it
pub stands_after : {T : Type 0} (period : T → Period) → ((x : T) → (period x).start < (period x).end) → (xs : List T) (day k : ℕ) (d : T) → AreApart (map period xs) → k < length xs → (period (get_or xs k d)).end ≤ day → k < prefix_len (ended period day) xs
stands_after period some xs day k d apart l e = elim (cases_lt k (prefix_len (ended period day) xs)) [
  | inl a ↦ a
  | inr g ↦
      let n = prefix_len (ended period day) xs in
      let stops = prefix_len_stops (ended period day) xs d (omega arith) in
      elim (cases_lt n k) [
        | inl b ↦
            let before = apart_at period xs n k d apart b l in
            let any = some (get_or xs k d) in
            let yes : ended period day (get_or xs n d) ≡ true = le-leb (period (get_or xs n d)).end day (omega arith) in
            absurd cc
        | inr c ↦
            let same : n ≡ k = omega arith in
            let yes : ended period day (get_or xs n d) ≡ true = le-leb (period (get_or xs n d)).end day (subst (λ m. (period (get_or xs m d)).end ≤ day) (sym same) e) in
            absurd cc
      ]
]

-- the item at a place has not ended: the first that has not stands there or before it
pub stands_before : {T : Type 0} (period : T → Period) (xs : List T) (day k : ℕ) (d : T) → day < (period (get_or xs k d)).end → prefix_len (ended period day) xs ≤ k
stands_before period xs day k d e = elim (cases_lt k (prefix_len (ended period day) xs)) [
  | inr g ↦ g
  | inl a ↦
      let passes = prefix_len_passes (ended period day) xs k d a in
      let no : ended period day (get_or xs k d) ≡ false = lt-leb (period (get_or xs k d)).end day e in
      absurd cc
]

-- ---- what a search finds

none_shares : {T : Type 0} (period : T → Period) (p : Period) (xs : List T) → All (λ q. shares_day p q ≡ false) (map period xs) → find (λ x. shares_day p (period x)) xs ≡ None
none_shares period p [] h = refl
none_shares period p (x ∷ xs) h = rw (h 0 (period x) (omega arith)) (none_shares period p xs (λ k d l. h (suc k) d (omega arith)))

pub find_none : {T : Type 0} (period : T → Period) → ((x : T) → (period x).start < (period x).end) → (p : Period) (xs : List T) → prefix_len (ended period p.start) xs ≡ length xs → find (λ x. shares_day p (period x)) xs ≡ None
find_none period some p [] e = refl
find_none period some p (x ∷ xs) e = elim (cases_lt p.start (period x).end) [
  | inl a ↦ let no : prefix_len (ended period p.start) (x ∷ xs) ≡ 0 = rw (lt-leb (period x).end p.start a) refl in absurd (omega arith)
  | inr g ↦
      let yes : prefix_len (ended period p.start) (x ∷ xs) ≡ 1 + prefix_len (ended period p.start) xs = rw (le-leb (period x).end p.start g) refl in
      rw (apart_after p (period x) g) (find_none period some p xs (omega arith))
]

pub find_at : {T : Type 0} (period : T → Period) → ((x : T) → (period x).start < (period x).end) → (p : Period) (xs : List T) (d : T) → p.start < p.end → AreApart (map period xs) → prefix_len (ended period p.start) xs < length xs
    → find (λ x. shares_day p (period x)) xs ≡ (let y = get_or xs (prefix_len (ended period p.start) xs) d in if nat_lt (period y).start p.end then Some y else None)
find_at period some p [] d full apart l = absurd (omega arith)
find_at period some p (x ∷ xs) d full apart l =
    let any = some x in
    elim (cases_lt p.start (period x).end) [
      | inl b ↦ rw (lt-leb (period x).end p.start b) (elim (cases_lt (period x).start p.end) [
        | inl a ↦ rw (lt-ltb (period x).start p.end a, shared p (period x) full any a b) refl
        | inr g ↦ rw (le-ltb (period x).start p.end g, apart_before p (period x) (omega arith) g)
            (none_shares period p xs (λ k d l. let later = apart 0 (suc k) d (omega arith) (omega arith) in apart_before p _ (omega arith) (omega arith)))
      ])
      | inr g ↦
          let yes : prefix_len (ended period p.start) (x ∷ xs) ≡ 1 + prefix_len (ended period p.start) xs = rw (le-leb (period x).end p.start g) refl in
          rw (le-leb (period x).end p.start g, apart_after p (period x) g, one-add (prefix_len (ended period p.start) xs)) (find_at period some p xs d full (tail_apart period x xs apart) (omega arith))
    ]

-- the same by the place that was found, and the item that stands there

pub missed_all : {T : Type 0} (period : T → Period) → ((x : T) → (period x).start < (period x).end) → (p : Period) (xs : List T) (n : ℕ) → n ≡ prefix_len (ended period p.start) xs → length xs ≤ n → None ≡ find (λ x. shares_day p (period x)) xs
missed_all period some p xs n place most =
    let bound = prefix_len-le-length (ended period p.start) xs in
    sym (find_none period some p xs (omega arith))

pub found_at : {T : Type 0} (period : T → Period) → ((x : T) → (period x).start < (period x).end) → (p : Period) (xs : List T) (n : ℕ) (y : T) → p.start < p.end → AreApart (map period xs) → n ≡ prefix_len (ended period p.start) xs → n < length xs → y ≡ get_or xs n y → (period y).start < p.end
    → Some y ≡ find (λ x. shares_day p (period x)) xs
found_at period some p xs n y full apart place l item before =
    let at = find_at period some p xs y full apart (omega arith) in
    let here : get_or xs (prefix_len (ended period p.start) xs) y ≡ y = ap (λ k. get_or xs k y) (sym place) ∙ sym item in
    sym (at ∙ rw (here, lt-ltb (period y).start p.end before) refl)

pub missed_at : {T : Type 0} (period : T → Period) → ((x : T) → (period x).start < (period x).end) → (p : Period) (xs : List T) (n : ℕ) (y : T) → p.start < p.end → AreApart (map period xs) → n ≡ prefix_len (ended period p.start) xs → n < length xs → y ≡ get_or xs n y → p.end ≤ (period y).start
    → None ≡ find (λ x. shares_day p (period x)) xs
missed_at period some p xs n y full apart place l item after =
    let at = find_at period some p xs y full apart (omega arith) in
    let here : get_or xs (prefix_len (ended period p.start) xs) y ≡ y = ap (λ k. get_or xs k y) (sym place) ∙ sym item in
    sym (at ∙ rw (here, le-ltb (period y).start p.end after) refl)
