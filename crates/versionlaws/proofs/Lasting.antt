-- Stamps of a list, and rows that are there at each instant from their system start on.
use Rattle.std.proofs.Common.{◌≡◌, ◌∙◌, ℕ, zero, suc, ◌<◌, ◌≤◌, ◌⊎◌, inl, inr, Bool, true, false, cond, List, [], ◌∷◌, ◌++◌, reverse, Some, refl, sym, ap, subst, arith, filter, slice_get, append-nil, nat_le}
use Rattle.std.proofs.lemmas.Bool.{cases_lt, le-leb, lt-leb, cond-false}
use Rattle.std.proofs.lemmas.List.{reverse-append}
use Rattle.std.proofs.lemmas.List.Elements.{filter-append}
use Rattle.model.specs.Lists.{nth}
use Rattle.model.specs.Tables.{Table, Row, IsRow}
use Rattle.model.specs.declared.entry.Entry.{Entry}
use Rattle.model.specs.Logs.{IsStamped}
use Rattle.rowlaws.specs.Rows.{Has}
use Rattle.rowlaws.proofs.Members.{has_cases}

-- ---- stamps fall from the newest back

abbrev pub Falling : List Entry → Type 0
Falling [] = Unit {0}
Falling (e ∷ before) = ((f : Entry) → Has before f → f.stamp < e.stamp) × Falling before

has_reverse : {A : Type 0} (xs : List A) (z : A) → Has (reverse xs) z → Has xs z
has_reverse [] z h = h
has_reverse (x ∷ xs) z h = elim (has_cases (reverse xs) (x ∷ []) z (subst (λ ys. Has ys z) (reverse-append (x ∷ []) xs) h)) [ inl a ↦ inr (has_reverse xs z a) | inr b ↦ elim b [ inl e ↦ inl e | inr n ↦ absurd n ] ]

falling_more : (ys : List Entry) (x : Entry) → Falling ys → ((y : Entry) → Has ys y → x.stamp < y.stamp) → Falling (ys ++ x ∷ [])
falling_more [] x f h = ((λ e m. absurd m), tt)
falling_more (y ∷ ys) x f h = ((λ e m. elim (has_cases ys (x ∷ []) e m) [ inl a ↦ f.0 e a | inr b ↦ elim b [ inl q ↦ subst (λ z. z.stamp < y.stamp) (sym q) (h y (inl refl)) | inr n ↦ absurd n ] ]), falling_more ys x f.1 (λ e m. h e (inr m)))

has_at : {A : Type 0} (xs : List A) (z : A) → Has xs z → (i : ℕ) × (slice_get xs i ≡ Some z)
has_at [] z h = absurd h
has_at (x ∷ xs) z (inl e) = (0, ap Some (sym e))
has_at (x ∷ xs) z (inr h) = let i = has_at xs z h in (suc i.0, i.1)

falls : (xs : List Entry) → ((i j : ℕ) (d e : Entry) → i < j → slice_get xs i ≡ Some d → slice_get xs j ≡ Some e → d.stamp < e.stamp) → Falling (reverse xs)
falls [] h = tt
falls (x ∷ xs) h = subst (λ ys. Falling ys) (sym (reverse-append (x ∷ []) xs))
    (falling_more (reverse xs) x (falls xs (λ i j d e l p q. h (suc i) (suc j) d e (omega arith) p q)) (λ y m. let i = has_at xs y (has_reverse xs y m) in h 0 (suc i.0) x y (omega arith) refl i.1))

pub falling : (xs : List Entry) → IsStamped xs → Falling (reverse xs)
falling xs s = falls xs (λ i j d e l p q. s.rising (suc i) (suc j) d e (omega arith) p q)

-- ---- a beginning of a list

get_longer : (xs ys : List Entry) (i : ℕ) (e : Entry) → slice_get xs i ≡ Some e → slice_get (xs ++ ys) i ≡ Some e
get_longer [] ys i e h = absurd (cc)
get_longer (x ∷ xs) ys zero e h = h
get_longer (x ∷ xs) ys (suc i) e h = get_longer xs ys i e h

nth_longer : (xs ys : List Entry) (i : ℕ) (e : Entry) → nth xs i ≡ Some e → nth (xs ++ ys) i ≡ Some e
nth_longer xs ys zero e h = absurd (cc)
nth_longer xs ys (suc i) e h = get_longer xs ys i e h

pub stamped_beginning : (xs ys : List Entry) → IsStamped (xs ++ ys) → IsStamped xs
stamped_beginning xs ys s = record {
  instants = λ i e h. s.instants i e (nth_longer xs ys i e h);
  rising = λ i j d e l h g. s.rising i j d e l (nth_longer xs ys i d h) (nth_longer xs ys j e g);
}

-- ---- the entries up to an instant

-- the entries of a list that are stamped at most t
abbrev pub up_to : ℕ → List Entry → List Entry
up_to t list = filter (λ e. nat_le e.stamp t) list

pub filter-reverse : {A : Type 0} (p : A → Bool) (xs : List A) → filter p (reverse xs) ≡ reverse (filter p xs)
filter-reverse p [] = refl
filter-reverse p (x ∷ xs) = rw (reverse-append (x ∷ []) xs, filter-append p (reverse xs) (x ∷ []), filter-reverse p xs) (by (p x))
  where
    by : (b : Bool) → reverse (filter p xs) ++ cond b (x ∷ []) [] ≡ reverse (cond b (x ∷ filter p xs) (filter p xs))
    by true = sym (reverse-append (x ∷ []) (filter p xs))
    by false = append-nil (reverse (filter p xs))

pub all_kept : (w : ℕ) (before : List Entry) → ((f : Entry) → Has before f → f.stamp ≤ w) → up_to w before ≡ before
all_kept w [] h = refl
all_kept w (f ∷ before) h = rw (le-leb f.stamp w (h f (inl refl))) (ap (λ es. f ∷ es) (all_kept w before (λ g m. h g (inr m))))

pub none_later : (u : ℕ) (e : Entry) (before : List Entry) → u < e.stamp → up_to u (e ∷ before) ≡ up_to u before
none_later u e before l = cond-false _ _ _ (lt-leb e.stamp u l)

-- ---- a row that was born by then is there

-- each row of the newer table is one of the older, or was born just now
abbrev pub AreOlder : (List Entry → Table) → List Entry → Type 0
AreOlder table [] = Unit {0}
AreOlder table (e ∷ before) = ((row : Row) → IsRow (table (e ∷ before)) row → IsRow (table before) row ⊎ (row.system_start ≡ e.stamp)) × AreOlder table before

-- a row that is there at t is there at w, which is not after t
pub lasts : (table : List Entry → Table) (w t : ℕ) (before : List Entry) (row : Row) → AreOlder table before → Falling before → w ≤ t → row.system_start ≤ w → IsRow (table (up_to t before)) row → IsRow (table (up_to w before)) row
lasts table w t [] row older f le b h = h
lasts table w t (e ∷ before) row older f le b h = elim (cases_lt t e.stamp) [
  | inl l ↦ subst (λ es. IsRow (table es) row) (sym (none_later w e before (omega arith))) (lasts table w t before row older.1 f.1 le b (subst (λ es. IsRow (table es) row) (none_later t e before l) h))
  | inr g ↦
      let all : up_to t (e ∷ before) ≡ e ∷ before = all_kept t (e ∷ before) (λ d m. elim m [ inl q ↦ let s : d.stamp ≡ e.stamp = ap (λ x. x.stamp) q in omega arith | inr r ↦ let s = f.0 d r in omega arith ]) in
      elim (cases_lt w e.stamp) [
        | inr k ↦ subst (λ es. IsRow (table es) row) (all ∙ sym (all_kept w (e ∷ before) (λ d m. elim m [ inl q ↦ let s : d.stamp ≡ e.stamp = ap (λ x. x.stamp) q in omega arith | inr r ↦ let s = f.0 d r in omega arith ]))) h
        | inl l ↦ elim (older.0 row (subst (λ es. IsRow (table es) row) all h)) [
          | inl o ↦ subst (λ es. IsRow (table es) row) (sym (none_later w e before l)) (lasts table w t before row older.1 f.1 le b
              (subst (λ es. IsRow (table es) row) (sym (all_kept t before (λ d m. let s = f.0 d m in omega arith))) o))
          | inr q ↦ absurd (omega arith)
        ]
      ]
]
