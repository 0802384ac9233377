-- The items of a key as the code has them, against the same in the terms of the definitions.
use Rattle.std.proofs.Common.{◌≡◌, ℕ, zero, suc, ◌+◌, ◌<◌, ◌≤◌, ◌⊎◌, inl, inr, ◌==◌, Bool, true, false, ◌||◌, ◌↔◌, List, [], ◌∷◌, Some, None, refl, sym, ap, ◌∙◌, arith, map, length, get_or, if◌then◌else◌}
use Rattle.std.specs.Prelude.{find, All, remove}
use Rattle.std.specs.List.{list_any, insert, prefix_len}
use Rattle.std.proofs.lemmas.Bool.{cases_lt, cases_Bool, lt-ltb, le-ltb, lt-leb, le-leb, and_left, eqb-true}
use Rattle.std.proofs.lemmas.List.Elements.{All-cons as all_cons}
use Rattle.std.proofs.lemmas.List.Sums.{prefix_len-le-length}
use Rattle.std.proofs.lemmas.List.Kept.{AllPairs-cons}
use Rattle.std.proofs.Math.Numerals.{one-add}
use Rattle.model.specs.Tables.{Period}
use Rattle.overlaps.specs.Index.{AreApart, shares_day, with_item, same_period, without_period}
use Rattle.overlaps.proofs.Sharing.{shares_day-is, ended, tail_apart}

abbrev EndsBefore : Period → Period → Type 0
EndsBefore p q = p.end ≤ q.start

-- ---- that no two share a day

ends_before : (p q : Period) → p.start < p.end → q.start < q.end → shares_day p q ≡ false → (q.end ≤ p.start) ⊎ (p.end ≤ q.start)
ends_before p q some other none = elim (cases_lt p.start q.end) [
  | inr g ↦ inl g
  | inl a ↦ elim (cases_lt q.start p.end) [
    | inr g ↦ inr g
    | inl b ↦
        let f : shares_day p q ≡ true = shares_day-is p q some other ∙ rw (lt-ltb q.start p.end b, lt-ltb p.start q.end a) refl in
        cc
  ]
]

none_found : {T : Type 0} (test : T → Bool) (x : T) (xs : List T) → find test (x ∷ xs) ≡ None → (test x ≡ false) × (find test xs ≡ None)
none_found test x xs h = elim (cases_Bool (test x)) [
  | inl y ↦ let e : find test (x ∷ xs) ≡ Some x = rw y refl in cc
  | inr n ↦ (n, (let e : find test (x ∷ xs) ≡ find test xs = rw n refl in sym e ∙ h))
]

all_with : {T : Type 0} (period : T → Period) (P : Period → Type 0) (x : T) (xs : List T) → P (period x) → All P (map period xs) → All P (map period (with_item period x xs))
all_with period P x [] here h = all_cons P (period x) [] here (λ k d l. absurd (omega arith))
all_with period P x (y ∷ ys) here h = elim (cases_lt (period y).start (period x).start) [
  | inl a ↦ rw (lt-ltb (period y).start (period x).start a) (all_cons P (period y) (map period (with_item period x ys)) (h 0 (period y) (omega arith)) (all_with period P x ys here (λ k d l. h (suc k) d (omega arith))))
  | inr g ↦ rw (le-ltb (period y).start (period x).start g) (all_cons P (period x) (map period (y ∷ ys)) here h)
]

pub with_apart : {T : Type 0} (period : T → Period) → ((x : T) → (period x).start < (period x).end) → (x : T) (xs : List T) → AreApart (map period xs) → find (λ y. shares_day (period x) (period y)) xs ≡ None → AreApart (map period (with_item period x xs))
with_apart period some x [] apart none = λ i j d l m. absurd (omega arith)
with_apart period some x (y ∷ ys) apart none =
    let here = some x in
    let there = some y in
    let rest = none_found (λ z. shares_day (period x) (period z)) y ys none in
    let later : All (λ r. (period y).end ≤ r.start) (map period ys) = λ k d l. apart 0 (suc k) d (omega arith) (omega arith) in
    elim (ends_before (period x) (period y) here there rest.0) [
      | inl before ↦
          let a : (period y).start < (period x).start = omega arith in
          rw (lt-ltb (period y).start (period x).start a)
          (AllPairs-cons EndsBefore (period y) (map period (with_item period x ys)) (all_with period (λ r. (period y).end ≤ r.start) x ys before later) (with_apart period some x ys (tail_apart period y ys apart) rest.1))
      | inr after ↦
          let g : (period x).start ≤ (period y).start = omega arith in
          rw (le-ltb (period y).start (period x).start g)
          (AllPairs-cons EndsBefore (period x) (map period (y ∷ ys)) (all_cons (λ r. (period x).end ≤ r.start) (period y) (map period ys) after (λ k d l. let h = later k d l in omega arith)) apart)
    ]

-- ---- an item more

pub insert-is : {T : Type 0} (period : T → Period) → ((x : T) → (period x).start < (period x).end) → (x : T) (xs : List T) → find (λ y. shares_day (period x) (period y)) xs ≡ None
    → insert xs (prefix_len (ended period (period x).start) xs) x ≡ with_item period x xs
insert-is period some x [] none = refl
insert-is period some x (y ∷ ys) none =
    let here = some x in
    let there = some y in
    let rest = none_found (λ z. shares_day (period x) (period z)) y ys none in
    elim (ends_before (period x) (period y) here there rest.0) [
      | inl before ↦ rw (le-leb (period y).end (period x).start before, one-add (prefix_len (ended period (period x).start) ys), lt-ltb (period y).start (period x).start (omega arith)) (ap (λ zs. y ∷ zs) (insert-is period some x ys rest.1))
      | inr after ↦ rw (lt-leb (period y).end (period x).start (omega arith), le-ltb (period y).start (period x).start (omega arith)) refl
    ]

-- ---- an item less

not_same : (p q : Period) → (q.start < p.start) ⊎ (p.start < q.start) → same_period q p ≡ false
not_same p q apart = elim (cases_Bool (q.start == p.start)) [
  | inr n ↦ and_left _ _ n
  | inl y ↦ let e = eqb-true q.start p.start y in elim apart [ inl a ↦ absurd (omega arith) | inr a ↦ absurd (omega arith) ]
]

none_later : {T : Type 0} (period : T → Period) (p : Period) (xs : List T) → All (λ q. p.start < q.start) (map period xs) → (find (λ x. same_period (period x) p) xs ≡ None) × (without_period period p xs ≡ xs)
none_later period p [] h = (refl, refl)
none_later period p (x ∷ xs) h =
    let rest = none_later period p xs (λ k d l. h (suc k) d (omega arith)) in
    rw (not_same p (period x) (inr (h 0 (period x) (omega arith)))) (rest.0, ap (λ ys. x ∷ ys) rest.1)

-- what a removal finds and leaves, where the first item that has not ended before the period stands at a place
pub removed_none : {T : Type 0} (period : T → Period) → ((x : T) → (period x).start < (period x).end) → (p : Period) (xs : List T) → prefix_len (ended period p.start) xs ≡ length xs → (find (λ x. same_period (period x) p) xs ≡ None) × (without_period period p xs ≡ xs)
removed_none period some p [] e = (refl, refl)
removed_none period some p (x ∷ xs) e = elim (cases_lt p.start (period x).end) [
  | inl a ↦ let no : prefix_len (ended period p.start) (x ∷ xs) ≡ 0 = rw (lt-leb (period x).end p.start a) refl in absurd (omega arith)
  | inr g ↦
      let yes : prefix_len (ended period p.start) (x ∷ xs) ≡ 1 + prefix_len (ended period p.start) xs = rw (le-leb (period x).end p.start g) refl in
      let some_day = some x in
      let rest = removed_none period some p xs (omega arith) in
      rw (not_same p (period x) (inl (omega arith))) (rest.0, ap (λ ys. x ∷ ys) rest.1)
]

abbrev pub IsRemoved : {T : Type 0} → (T → Period) → Period → List T → ℕ → T → Type 0
IsRemoved period p xs n d = (find (λ x. same_period (period x) p) xs ≡ (if same_period (period (get_or xs n d)) p then Some (get_or xs n d) else None)) × (without_period period p xs ≡ (if same_period (period (get_or xs n d)) p then remove xs n else xs))

pub removed_at : {T : Type 0} (period : T → Period) → ((x : T) → (period x).start < (period x).end) → (p : Period) (xs : List T) (d : T) → AreApart (map period xs) → prefix_len (ended period p.start) xs < length xs → IsRemoved period p xs (prefix_len (ended period p.start) xs) d
removed_at period some p [] d apart l = absurd (omega arith)
removed_at period some p (x ∷ xs) d apart l =
    let some_day = some x in
    elim (cases_lt p.start (period x).end) [
      | inl b ↦
          let rest = none_later period p xs (λ k e m. let later = apart 0 (suc k) e (omega arith) (omega arith) in omega arith) in
          rw (lt-leb (period x).end p.start b) (elim (cases_Bool (same_period (period x) p)) [
            | inl y ↦ rw y (refl, rest.1)
            | inr n ↦ rw n (rest.0, ap (λ ys. x ∷ ys) rest.1)
          ])
      | inr g ↦
          let yes : prefix_len (ended period p.start) (x ∷ xs) ≡ 1 + prefix_len (ended period p.start) xs = rw (le-leb (period x).end p.start g) refl in
          let rest = removed_at period some p xs d (tail_apart period x xs apart) (omega arith) in
          let n = prefix_len (ended period p.start) xs in
          rw (le-leb (period x).end p.start g, one-add n, not_same p (period x) (inl (omega arith))) (elim (cases_Bool (same_period (period (get_or xs n d)) p)) [
            | inl y ↦ (rest.0, ap (λ ys. x ∷ ys) rest.1 ∙ rw y refl)
            | inr m ↦ (rest.0, ap (λ ys. x ∷ ys) rest.1 ∙ rw m refl)
          ])
    ]

-- the same by the place that was found, and the item that stands there

pub removed_all : {T : Type 0} (period : T → Period) → ((x : T) → (period x).start < (period x).end) → (p : Period) (xs : List T) (n : ℕ) → n ≡ prefix_len (ended period p.start) xs → length xs ≤ n → (None ≡ find (λ x. same_period (period x) p) xs) × (xs ≡ without_period period p xs)
removed_all period some p xs n place most =
    let bound = prefix_len-le-length (ended period p.start) xs in
    let h = removed_none period some p xs (omega arith) in
    (sym h.0, sym h.1)

pub removed_other : {T : Type 0} (period : T → Period) → ((x : T) → (period x).start < (period x).end) → (p : Period) (xs : List T) (n : ℕ) (y : T) → AreApart (map period xs) → n ≡ prefix_len (ended period p.start) xs → n < length xs → y ≡ get_or xs n y → same_period (period y) p ≡ false
    → (None ≡ find (λ x. same_period (period x) p) xs) × (xs ≡ without_period period p xs)
removed_other period some p xs n y apart place l item other =
    let h = removed_at period some p xs y apart (omega arith) in
    let here : get_or xs (prefix_len (ended period p.start) xs) y ≡ y = ap (λ k. get_or xs k y) (sym place) ∙ sym item in
    (sym (h.0 ∙ rw (here, other) refl), sym (h.1 ∙ rw (here, other) refl))

pub removed_here : {T : Type 0} (period : T → Period) → ((x : T) → (period x).start < (period x).end) → (p : Period) (xs : List T) (n : ℕ) (y : T) → AreApart (map period xs) → n ≡ prefix_len (ended period p.start) xs → n < length xs → y ≡ get_or xs n y → same_period (period y) p ≡ true
    → (Some y ≡ find (λ x. same_period (period x) p) xs) × (remove xs n ≡ without_period period p xs)
removed_here period some p xs n y apart place l item same =
    let h = removed_at period some p xs y apart (omega arith) in
    let here : get_or xs (prefix_len (ended period p.start) xs) y ≡ y = ap (λ k. get_or xs k y) (sym place) ∙ sym item in
    (sym (h.0 ∙ rw (here, same) refl), ap (remove xs) place ∙ sym (h.1 ∙ rw (here, same) refl))

all_without : {T : Type 0} (period : T → Period) (P : Period → Type 0) (p : Period) (xs : List T) → All P (map period xs) → All P (map period (without_period period p xs))
all_without period P p [] h = h
all_without period P p (x ∷ xs) h =
    let rest = all_without period P p xs (λ k d l. h (suc k) d (omega arith)) in
    elim (cases_Bool (same_period (period x) p)) [
      | inl y ↦ rw y rest
      | inr n ↦ rw n (all_cons P (period x) (map period (without_period period p xs)) (h 0 (period x) (omega arith)) rest)
    ]

pub without_apart : {T : Type 0} (period : T → Period) (p : Period) (xs : List T) → AreApart (map period xs) → AreApart (map period (without_period period p xs))
without_apart period p [] apart = apart
without_apart period p (x ∷ xs) apart =
    let rest = without_apart period p xs (tail_apart period x xs apart) in
    let later : All (λ r. (period x).end ≤ r.start) (map period xs) = λ k d l. apart 0 (suc k) d (omega arith) (omega arith) in
    elim (cases_Bool (same_period (period x) p)) [
      | inl y ↦ rw y rest
      | inr n ↦ rw n (AllPairs-cons EndsBefore (period x) (map period (without_period period p xs)) (all_without period (λ r. (period x).end ≤ r.start) p xs later) rest)
    ]

-- ---- what passes a test

swap_or : (a b c : Bool) → (a || (b || c)) ≡ (b || (a || c))
swap_or true true c = refl
swap_or true false c = refl
swap_or false true c = refl
swap_or false false c = refl

pub list_any-with_item : (test : Period → Bool) (p : Period) (qs : List Period) → list_any test (with_item (λ q. q) p qs) ≡ (test p || list_any test qs)
list_any-with_item test p [] = refl
list_any-with_item test p (q ∷ qs) = elim (cases_lt q.start p.start) [
  | inl a ↦ rw (lt-ltb q.start p.start a, list_any-with_item test p qs) (swap_or (test q) (test p) (list_any test qs))
  | inr g ↦ rw (le-ltb q.start p.start g) refl
]

pub find-none : {T : Type 0} (test : T → Bool) (xs : List T) → (find test xs ≡ None) ↔ (list_any test xs ≡ false)
find-none test [] = (λ h. refl, λ h. refl)
find-none test (x ∷ xs) = elim (cases_Bool (test x)) [
  | inl y ↦ rw y ((λ h. cc), (λ h. cc))
  | inr n ↦ rw n (find-none test xs)
]

-- what stands at a place is one item
pub same_place : {T : Type 0} (xs : List T) (n : ℕ) (x y : T) → n < length xs → x ≡ get_or xs n x → y ≡ get_or xs n y → x ≡ y
same_place [] n x y l a b = absurd (omega arith)
same_place (z ∷ zs) zero x y l a b = a ∙ sym b
same_place (z ∷ zs) (suc n) x y l a b = same_place zs n x y (omega arith) a b
