-- At which places the items stand that share a day with a period.
use Rattle.std.proofs.Common.{◌≡◌, ℕ, suc, ◌+◌, ◌-◌, ◌<◌, ◌≤◌, inl, inr, Bool, true, false, List, [], ◌∷◌, ◌++◌, refl, sym, ◌∙◌, subst, ap, arith, map, length, get_or}
use Rattle.std.specs.Prelude.{nat_lt, All, slice_range, take, drop}
use Rattle.std.specs.List.{list_any, list_all, prefix_len}
use Rattle.std.proofs.lemmas.Bool.{cases_lt, le-leb, lt-leb, lt-ltb, le-ltb, leb-true, leb-false}
use Rattle.std.proofs.lemmas.List.{length-append}
use Rattle.std.proofs.lemmas.List.Elements.{All-cons as all_cons}
use Rattle.std.proofs.lemmas.List.Sums.{prefix_len_passes, prefix_len_stops, prefix_len_is, prefix_len-le-length}
use Rattle.std.proofs.Math.Seq.{take-append_seam, drop-append_seam}
use Rattle.model.specs.Tables.{Period}
use Rattle.overlaps.specs.Index.{AreApart, AreSharing, shares_day}
use Rattle.overlaps.proofs.Sharing.{ended, tail_apart, apart_at, shared, apart_after, apart_before}

-- the period starts before the day
abbrev pub begun : {T : Type 0} → (T → Period) → ℕ → T → Bool
begun period day = λ x. nat_lt (period x).start day

module _ {T : Type 0} (period : T → Period) (some : (x : T) → (period x).start < (period x).end) where
  -- ---- where the first that starts on a day or after it stands: by where the first that ends after the day does

  begun_before : (day k : ℕ) (xs : List T) (d : T) → k < prefix_len (ended period day) xs → begun period day (get_or xs k d) ≡ true
  begun_before day k xs d l =
      let ends = leb-true (period (get_or xs k d)).end day (prefix_len_passes (ended period day) xs k d l) in
      let any = some (get_or xs k d) in
      lt-ltb (period (get_or xs k d)).start day (omega arith)

  pub begun_next : (day n : ℕ) (xs : List T) (y : T) → AreApart (map period xs) → n ≡ prefix_len (ended period day) xs → n < length xs → y ≡ get_or xs n y → (period y).start < day → n + 1 ≡ prefix_len (begun period day) xs
  begun_next day n xs y apart place l item early = sym (prefix_len_is (begun period day) xs (n + 1) y (omega arith) passes stops)
    where
      passes : (k : ℕ) → k < n + 1 → begun period day (get_or xs k y) ≡ true
      passes k m = elim (cases_lt k n) [
        | inl b ↦ begun_before day k xs y (omega arith)
        | inr g ↦
            let same : n ≡ k = omega arith in
            subst (λ j. begun period day (get_or xs j y) ≡ true) same (subst (λ z. begun period day z ≡ true) item (lt-ltb (period y).start day early))
      ]

      stops : n + 1 < length xs → begun period day (get_or xs (n + 1) y) ≡ false
      stops m =
          let still = leb-false (period (get_or xs (prefix_len (ended period day) xs) y)).end day (prefix_len_stops (ended period day) xs y (omega arith)) in
          let later = apart_at period xs (prefix_len (ended period day) xs) (n + 1) y apart (omega arith) m in
          le-ltb (period (get_or xs (n + 1) y)).start day (omega arith)

  pub begun_here : (day n : ℕ) (xs : List T) (y : T) → n ≡ prefix_len (ended period day) xs → n < length xs → y ≡ get_or xs n y → day ≤ (period y).start → n ≡ prefix_len (begun period day) xs
  begun_here day n xs y place l item late = sym (prefix_len_is (begun period day) xs n y (omega arith) (λ k m. begun_before day k xs y (omega arith)) (λ m. subst (λ z. begun period day z ≡ false) item (le-ltb (period y).start day late)))

  all_begun : (day : ℕ) (xs : List T) → prefix_len (ended period day) xs ≡ length xs → prefix_len (begun period day) xs ≡ length xs
  all_begun day [] e = refl
  all_begun day (x ∷ xs) e = elim (cases_lt day (period x).end) [
    | inl a ↦ let no : prefix_len (ended period day) (x ∷ xs) ≡ 0 = rw (lt-leb (period x).end day a) refl in absurd (omega arith)
    | inr g ↦
        let yes : prefix_len (ended period day) (x ∷ xs) ≡ 1 + prefix_len (ended period day) xs = rw (le-leb (period x).end day g) refl in
        let any = some x in
        let also : prefix_len (begun period day) (x ∷ xs) ≡ 1 + prefix_len (begun period day) xs = rw (lt-ltb (period x).start day (omega arith)) refl in
        let rest = all_begun day xs (omega arith) in
        omega arith
  ]

  pub begun_all : (day n : ℕ) (xs : List T) → n ≡ prefix_len (ended period day) xs → length xs ≤ n → n ≡ prefix_len (begun period day) xs
  begun_all day n xs place most =
      let bound = prefix_len-le-length (ended period day) xs in
      let all = all_begun day xs (omega arith) in
      omega arith

  -- ---- the items before those that share a day, those, and the items after them

  module _ (p : Period) (full : p.start < p.end) where
    none_later : (xs : List T) → All (λ q. p.end ≤ q.start) (map period xs) → list_any (λ x. shares_day p (period x)) xs ≡ false
    none_later [] h = refl
    none_later (x ∷ xs) h = rw (apart_before p (period x) (omega arith) (h 0 (period x) (omega arith))) (none_later xs (λ k d l. h (suc k) d (omega arith)))

    -- the first ends after the period starts
    abbrev LeftOpen : List T → Type 0
    LeftOpen [] = Unit {0}
    LeftOpen (x ∷ xs) = p.start < (period x).end

    open_later : (x : T) (xs : List T) → p.start < (period x).end → AreApart (map period (x ∷ xs)) → LeftOpen xs
    open_later x [] b apart = tt
    open_later x (y ∷ ys) b apart = let later = apart 0 1 (period x) (omega arith) (omega arith) in let any = some y in omega arith

    from_here : (xs : List T) → LeftOpen xs → AreApart (map period xs)
        → (found : List T) × (after : List T) × (xs ≡ found ++ after) × (length found ≡ prefix_len (begun period p.end) xs) × (list_all (λ x. shares_day p (period x)) found ≡ true) × (list_any (λ x. shares_day p (period x)) after ≡ false)
    from_here [] h apart = ([], [], refl, refl, refl, refl)
    from_here (x ∷ xs) h apart =
        let any = some x in
        elim (cases_lt (period x).start p.end) [
          | inl a ↦
              let yes : prefix_len (begun period p.end) (x ∷ xs) ≡ 1 + prefix_len (begun period p.end) xs = rw (lt-ltb (period x).start p.end a) refl in
              let rest = from_here xs (open_later x xs h apart) (tail_apart period x xs apart) in
              let long = rest.3 in
              let each : list_all (λ y. shares_day p (period y)) (x ∷ rest.0) ≡ true = rw (shared p (period x) full any a h) rest.4 in
              (x ∷ rest.0, rest.1, ap (λ ys. x ∷ ys) rest.2, omega arith, each, rest.5)
          | inr g ↦
              let no : prefix_len (begun period p.end) (x ∷ xs) ≡ 0 = rw (le-ltb (period x).start p.end g) refl in
              ([], x ∷ xs, refl, sym no, refl, none_later (x ∷ xs) (all_cons (λ q. p.end ≤ q.start) (period x) (map period xs) g (λ k d l. let later = apart 0 (suc k) d (omega arith) (omega arith) in omega arith)))
        ]

    split : (xs : List T) → AreApart (map period xs)
        → (before : List T) × (found : List T) × (after : List T) × (xs ≡ before ++ (found ++ after)) × (length before ≡ prefix_len (ended period p.start) xs) × (length before + length found ≡ prefix_len (begun period p.end) xs)
        × (list_any (λ x. shares_day p (period x)) before ≡ false) × (list_all (λ x. shares_day p (period x)) found ≡ true) × (list_any (λ x. shares_day p (period x)) after ≡ false)
    split [] apart = ([], [], [], refl, refl, refl, refl, refl, refl)
    split (x ∷ xs) apart =
        let any = some x in
        elim (cases_lt p.start (period x).end) [
          | inl b ↦
              let no : prefix_len (ended period p.start) (x ∷ xs) ≡ 0 = rw (lt-leb (period x).end p.start b) refl in
              let here = from_here (x ∷ xs) b apart in
              let long = here.3 in
              ([], here.0, here.1, here.2, sym no, omega arith, refl, here.4, here.5)
          | inr g ↦
              let yes : prefix_len (ended period p.start) (x ∷ xs) ≡ 1 + prefix_len (ended period p.start) xs = rw (le-leb (period x).end p.start g) refl in
              let also : prefix_len (begun period p.end) (x ∷ xs) ≡ 1 + prefix_len (begun period p.end) xs = rw (lt-ltb (period x).start p.end (omega arith)) refl in
              let rest = split xs (tail_apart period x xs apart) in
              let front = rest.4 in
              let long = rest.5 in
              let none : list_any (λ y. shares_day p (period y)) (x ∷ rest.0) ≡ false = rw (apart_after p (period x) g) rest.6 in
              (x ∷ rest.0, rest.1, rest.2, ap (λ ys. x ∷ ys) rest.3, omega arith, omega arith, none, rest.7, rest.8)
        ]

    pub sharing_in_order : (xs : List T) (n m : ℕ) → AreApart (map period xs) → n ≡ prefix_len (ended period p.start) xs → m ≡ prefix_len (begun period p.end) xs → (n ≤ m) × (m ≤ length xs)
    sharing_in_order xs n m apart front long =
        let s = split xs apart in
        let a = s.4 in
        let b = s.5 in
        let whole = ap length s.3 ∙ length-append s.0 (s.1 ++ s.2) in
        let rest = length-append s.1 s.2 in
        (omega arith, omega arith)

    pub sharing_at : (xs : List T) (n m : ℕ) (ys : List T) → AreApart (map period xs) → n ≡ prefix_len (ended period p.start) xs → m ≡ prefix_len (begun period p.end) xs → ys ≡ slice_range xs n m → AreSharing period p xs n ys
    sharing_at xs n m ys apart front long found =
        let s = split xs apart in
        let first : n ≡ length s.0 = front ∙ sym s.4 in
        let a = s.4 in
        let b = s.5 in
        let many : m - n ≡ length s.1 = omega arith in
        let from : drop n xs ≡ s.1 ++ s.2 = ap (λ zs. drop n zs) s.3 ∙ ap (λ k. drop k (s.0 ++ (s.1 ++ s.2))) first ∙ drop-append_seam s.0 (s.1 ++ s.2) in
        let same : s.1 ≡ ys = sym (found ∙ ap (take (m - n)) from ∙ ap (λ k. take k (s.1 ++ s.2)) many ∙ take-append_seam s.1 s.2) in
        record {
          before = s.0;
          after = s.2;
          all = s.3 ∙ ap (λ f. s.0 ++ (f ++ s.2)) same;
          place_is = sym first;
          none_before = s.6;
          each = subst (λ f. list_all (λ x. shares_day p (period x)) f ≡ true) same s.7;
          none_after = s.8;
        }
