-- The parts that are known by their days are the rows that UPDATE and DELETE make.
use Rattle.std.proofs.Common.{◌≡◌, ℕ, ◌-◌, ◌<◌, ◌≤◌, inl, inr, Bool, true, cond, List, [], ◌∷◌, ◌++◌, Option, Some, None, unwrap_or, refl, sym, ap, ◌∙◌, arith, min, max}
use Rattle.std.proofs.lemmas.Bool.{cases_lt, and_parts, and_from, le-leb, lt-ltb, le-ltb, leb-true, ltb-true}
use Rattle.period.specs.declared.period.Period.{Period as Declared}
use Rattle.model.specs.declared.value.Value.{Value}
use Rattle.model.specs.Tables.{Period, Row, inside}
use Rattle.model.specs.Statements.{meets}
use Rattle.rowlaws.specs.Cutting.{part, if_days, pieces, rest}
use Rattle.model.specs.Periods.{period_of, has_day}
use Rattle.rowlaws.specs.Parts.{AreParts, row_of_part}
use Rattle.rowlaws.proofs.RowFacts.{both}

abbrev Within : ℕ → ℕ → Option Declared → Type 0
Within s e o = (d : ℕ) → has_day o d ≡ true → (s ≤ d) × (d < e)

abbrev HasAll : ℕ → ℕ → Option Declared → Type 0
HasAll s e o = (d : ℕ) → s ≤ d → d < e → has_day o d ≡ true

in_period : (q : Period) (d : ℕ) → q.start ≤ d → d < q.end → inside q d ≡ true
in_period q d a b = and_from _ _ (le-leb q.start d a) (lt-ltb d q.end b)

from_period : (q : Period) (d : ℕ) → inside q d ≡ true → (q.start ≤ d) × (d < q.end)
from_period q d h = let p = and_parts _ _ h in (leb-true q.start d p.0, ltb-true d q.end p.1)

-- a part with the days from s up to e gives that row, if there is a day
known : (r : Row) (v : List Value) (t s e : ℕ) (o : Option Declared) → Within s e o → HasAll s e o → row_of_part r o v t ≡ if_days s e (part r s e v t)
known r v t s e None w a = elim (cases_lt s e) [ inl l ↦ absurd (both (a s (omega arith) l) refl) | inr g ↦ rw (le-ltb s e g) refl ]
known r v t s e (Some q) w a =
    let p : Period = period_of q in
    let i : p.start < p.end = q.ordered in
    let low = w p.start (in_period p p.start (omega arith) i) in
    let high = w (p.end - 1) (in_period p (p.end - 1) (omega arith) (omega arith)) in
    let l0 = low.0 in
    let l1 = low.1 in
    let h1 = high.1 in
    let some : s < e = omega arith in
    let first = from_period p s (a s (omega arith) some) in
    let last = from_period p (e - 1) (a (e - 1) (omega arith) (omega arith)) in
    let f0 = first.0 in
    let g1 = last.1 in
    let start : p.start ≡ s = omega arith in
    let end : p.end ≡ e = omega arith in
    rw (lt-ltb s e some) (λ i. part r (start i) (end i) v t ∷ [])

module _ (passes : Row → Bool) (r : Row) (p : Period) (before within after : Option Declared) (some : r.period.start < r.period.end) (le : p.start < p.end) (m : meets passes p r ≡ true) (parts : AreParts r.period p before within after) where
  overlap : (r.period.start < p.end) × (p.start < r.period.end)
  overlap = let ps = and_parts _ _ m in let qs = and_parts _ _ ps.0 in (ltb-true _ _ qs.1, ltb-true _ _ ps.1)

  before_is : (v : List Value) (t : ℕ) → row_of_part r before v t ≡ if_days r.period.start p.start (part r r.period.start p.start v t)
  before_is v t =
      let o = overlap.1 in
      known r v t r.period.start p.start before
      (λ d h. let q = and_parts _ _ (sym (parts.before_days d) ∙ h) in ((from_period r.period d q.0).0, ltb-true d p.start q.1))
      (λ d a b. parts.before_days d ∙ and_from _ _ (in_period r.period d a (omega arith)) (lt-ltb d p.start b))

  after_is : (v : List Value) (t : ℕ) → row_of_part r after v t ≡ if_days p.end r.period.end (part r p.end r.period.end v t)
  after_is v t =
      let o = overlap.0 in
      known r v t p.end r.period.end after
      (λ d h. let q = and_parts _ _ (sym (parts.after_days d) ∙ h) in (leb-true p.end d q.1, (from_period r.period d q.0).1))
      (λ d a b. parts.after_days d ∙ and_from _ _ (in_period r.period d (omega arith) b) (le-leb p.end d a))

  within_is : (v : List Value) (t : ℕ) → row_of_part r within v t ≡ part r (max r.period.start p.start) (min r.period.end p.end) v t ∷ []
  within_is v t =
      let a = overlap.0 in
      let b = overlap.1 in
      let s : ℕ = max r.period.start p.start in
      let e : ℕ = min r.period.end p.end in
      let day : s < e = omega arith in
      known r v t s e within
      (λ d h. let q = and_parts _ _ (sym (parts.within_days d) ∙ h) in let x = from_period r.period d q.0 in let y = from_period p d q.1 in let x0 = x.0 in let x1 = x.1 in let y0 = y.0 in let y1 = y.1 in (omega arith, omega arith))
      (λ d x y. parts.within_days d ∙ and_from _ _ (in_period r.period d (omega arith) (omega arith)) (in_period p d (omega arith) (omega arith)))
      ∙ ap (λ b. cond b (part r s e v t ∷ []) []) (lt-ltb s e day)

  pub update_is : (set : List Value → Option (List Value)) (t : ℕ) → row_of_part r before r.values t ++ (row_of_part r within (unwrap_or (set r.values) r.values) t ++ row_of_part r after r.values t) ≡ pieces p set t r
  update_is set t =
      let v : List Value = unwrap_or (set r.values) r.values in
      ap (λ xs. xs ++ (row_of_part r within v t ++ row_of_part r after r.values t)) (before_is r.values t)
      ∙ ap (λ xs. if_days r.period.start p.start (part r r.period.start p.start r.values t) ++ (xs ++ row_of_part r after r.values t)) (within_is v t)
      ∙ ap (λ xs. if_days r.period.start p.start (part r r.period.start p.start r.values t) ++ (part r (max r.period.start p.start) (min r.period.end p.end) v t ∷ xs)) (after_is r.values t)

  pub delete_is : (t : ℕ) → row_of_part r before r.values t ++ row_of_part r after r.values t ≡ rest p t r
  delete_is t = ap (λ xs. xs ++ row_of_part r after r.values t) (before_is r.values t) ∙ ap (λ xs. if_days r.period.start p.start (part r r.period.start p.start r.values t) ++ xs) (after_is r.values t)
