-- The least day that passes a test.
use Rattle.std.proofs.Common.{◌≡◌, ℕ, zero, suc, ◌+◌, ◌-◌, ◌<◌, ◌≤◌, ◌⊎◌, inl, inr, Bool, true, false, ◌||◌, List, [], ◌∷◌, Option, Some, None, refl, sym, ap, ◌∙◌, subst, arith, max, min}
use Rattle.std.specs.Prelude.{find, All}
use Rattle.std.specs.List.{range_with_len}
use Rattle.std.proofs.lemmas.Bool.{cases_lt, cases_Bool, cases_order, or_right, and_left, and_right, and_from, le-leb, lt-leb, lt-ltb, le-ltb}
use Rattle.model.specs.Tables.{Period, inside}
use Rattle.model.specs.Statements.{days_of}
use Rattle.model.specs.Periods.{StartInOrder, is_free}
use Rattle.rowlaws.specs.Covering.{uncovered, if_before, lesser, UncoveredDay}
use Rattle.rowlaws.proofs.RowFacts.{both}

-- the least number from s up to e that passes, or none
abbrev pub IsLeast : (ℕ → Bool) → ℕ → ℕ → Option ℕ → Type 0
IsLeast f s e None = (d : ℕ) → s ≤ d → d < e → f d ≡ false
IsLeast f s e (Some d) = (s ≤ d) × (d < e) × (f d ≡ true) × ((x : ℕ) → s ≤ x → x < d → f x ≡ false)

pub least_one : (f : ℕ → Bool) (s e : ℕ) (a b : Option ℕ) → IsLeast f s e a → IsLeast f s e b → a ≡ b
least_one f s e None None h g = refl
least_one f s e None (Some b) h g = absurd (both g.2 (h b g.0 g.1))
least_one f s e (Some a) None h g = absurd (both h.2 (g a h.0 h.1))
least_one f s e (Some a) (Some b) h g = elim (cases_order a b) [
  | inl q ↦ ap Some q
  | inr o ↦ elim o [ inl l ↦ absurd (both h.2 (g.3 a h.0 l)) | inr l ↦ absurd (both g.2 (h.3 b g.0 l)) ]
]

pub least_same : (f g : ℕ → Bool) (s e : ℕ) (o : Option ℕ) → ((d : ℕ) → s ≤ d → d < e → f d ≡ g d) → IsLeast f s e o → IsLeast g s e o
least_same f g s e None q h = λ d a b. sym (q d a b) ∙ h d a b
least_same f g s e (Some d) q h = (h.0, h.1, sym (q d h.0 h.1) ∙ h.2, (λ x a b. let l = h.1 in sym (q x a (omega arith)) ∙ h.3 x a b))

-- the days from s to m fail
pub least_later : (f : ℕ → Bool) (s m e : ℕ) (o : Option ℕ) → s ≤ m → ((d : ℕ) → s ≤ d → d < m → f d ≡ false) → IsLeast f m e o → IsLeast f s e o
least_later f s m e None l fails h = λ d a b. elim (cases_lt d m) [ inl x ↦ fails d a x | inr y ↦ h d y b ]
least_later f s m e (Some d) l fails h = let k = h.0 in (omega arith, h.1, h.2, (λ x a b. elim (cases_lt x m) [ inl y ↦ fails x a y | inr y ↦ h.3 x y b ]))

pub least_here : (f : ℕ → Bool) (s e : ℕ) → f s ≡ true → IsLeast f s e (if_before s e)
least_here f s e h = elim (cases_lt s e) [
  | inl l ↦ rw (lt-ltb s e l) (omega arith, l, h, (λ x a b. absurd (omega arith)))
  | inr g ↦ rw (le-ltb s e g) (λ d a b. absurd (omega arith))
]

pub find_least : (f : ℕ → Bool) (s n : ℕ) → IsLeast f s (s + n) (find f (range_with_len s n))
find_least f s zero = λ d a b. absurd (omega arith)
find_least f s (suc n) = elim (cases_Bool (f s)) [
  | inl y ↦ rw y (omega arith, omega arith, y, (λ x a b. absurd (omega arith)))
  | inr miss ↦ rw miss (least_later f s (s + 1) (s + suc n) (find f (range_with_len (s + 1) n)) (omega arith) (λ d a b. let q : s ≡ d = omega arith in subst (λ x. f x ≡ false) q miss)
      (subst (λ e. IsLeast f (s + 1) e (find f (range_with_len (s + 1) n))) (omega arith) (find_least f (s + 1) n)))
]

pub least_or : (f g : ℕ → Bool) (s e : ℕ) (a b : Option ℕ) → IsLeast f s e a → IsLeast g s e b → IsLeast (λ d. f d || g d) s e (lesser a b)
least_or f g s e None None h k = λ d x y. rw (h d x y) (k d x y)
least_or f g s e None (Some b) h k = (k.0, k.1, or_right (f b) (g b) k.2, (λ x y z. let l = k.1 in rw (h x y (omega arith)) (k.3 x y z)))
least_or f g s e (Some a) None h k = (h.0, h.1, rw h.2 refl, (λ x y z. let l = h.1 in rw (h.3 x y z) (k x y (omega arith))))
least_or f g s e (Some a) (Some b) h k =
    let a0 = h.0 in
    let a1 = h.1 in
    let b0 = k.0 in
    let b1 = k.1 in
    let low : s ≤ min a b = omega arith in
    let high : min a b < e = omega arith in (
      low,
      high,
      elim (cases_lt a b) [
        | inl l ↦ let q : a ≡ min a b = omega arith in subst (λ x. (f x || g x) ≡ true) q (rw h.2 refl)
        | inr l ↦ let q : b ≡ min a b = omega arith in subst (λ x. (f x || g x) ≡ true) q (or_right (f b) (g b) k.2)
      ],
      (λ x y z. rw (h.3 x y (omega arith)) (k.3 x y (omega arith))),
    )

-- ---- the walk over periods

not_inside : (p : Period) (d : ℕ) → (d < p.start) ⊎ (p.end ≤ d) → inside p d ≡ false
not_inside p d (inl l) = and_left _ _ (lt-leb p.start d l)
not_inside p d (inr g) = and_right _ _ (le-ltb d p.end g)

-- a day before all starts is free
free_before : (d : ℕ) (ps : List Period) → All (λ q. d < q.start) ps → is_free ps d ≡ true
free_before d [] h = refl
free_before d (p ∷ ps) h = rw (not_inside p d (inl (h 0 p (omega arith)))) (free_before d ps (λ k x l. h (suc k) x (omega arith)))

free_at_start : (d : ℕ) (p : Period) (ps : List Period) → d < p.start → StartInOrder (p ∷ ps) → is_free (p ∷ ps) d ≡ true
free_at_start d p ps l s = rw (not_inside p d (inl l)) (free_before d ps (λ k x m. let later = s 0 (suc k) x (omega arith) (omega arith) in omega arith))

uncovered_least : (d e : ℕ) (ps : List Period) → StartInOrder ps → IsLeast (is_free ps) d e (uncovered d e ps)
uncovered_least d e [] s = least_here (is_free []) d e refl
uncovered_least d e (p ∷ ps) s = elim (cases_lt d p.start) [
  | inl l ↦ rw (lt-leb p.start d l) (least_here (is_free (p ∷ ps)) d e (free_at_start d p ps l s))
  | inr g ↦ rw (le-leb p.start d g)
      (least_later (is_free (p ∷ ps)) d (max d p.end) e (uncovered (max d p.end) e ps) (omega arith)
      (λ x a b. rw (and_from _ _ (le-leb p.start x (omega arith)) (lt-ltb x p.end (omega arith))) refl)
      (least_same (is_free ps) (is_free (p ∷ ps)) (max d p.end) e (uncovered (max d p.end) e ps) (λ x a b. rw (not_inside p x (inr (omega arith))) refl)
      (uncovered_least (max d p.end) e ps (λ i j x l m. s (suc i) (suc j) x (omega arith) (omega arith)))))
]

-- the first of a period's days that passes
pub find_day : (f : ℕ → Bool) (p : Period) → p.start ≤ p.end → IsLeast f p.start p.end (find f (days_of p))
find_day f p le =
    let e : p.start + (p.end - p.start) ≡ p.end = omega arith in
    subst (λ x. IsLeast f p.start x (find f (days_of p))) e (find_least f p.start (p.end - p.start))

pub uncovered_is : UncoveredDay
uncovered_is child ps le s = least_one (is_free ps) child.start child.end (uncovered child.start child.end ps) (find (is_free ps) (days_of child)) (uncovered_least child.start child.end ps s) (find_day (is_free ps) child le)
