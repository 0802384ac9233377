-- What the laws of `refused` rest on besides the clauses that they speak of.
use Rattle.std.proofs.Common.{◌≡◌, ℕ, ◌<◌, ◌≤◌, Bool, true, false, is_some, Option, Some, None, option_map, List, refl, sym, ◌∙◌, subst, arith, inl, inr, ◌++◌, unwrap_or, min, max, ◌∷◌, Result, Ok, Err}
use Rattle.std.specs.Prelude.{IfOk, IsErr}
use Rattle.std.specs.Prelude.{find}
use Rattle.std.proofs.lemmas.Bool.{lt-ltb}
use denote.Ref.{Bor}
use Rattle.period.specs.declared.day.Day.{Day}
use Rattle.period.specs.declared.period.Period.{Period as DeclaredPeriod}
use Rattle.model.specs.Tables.{Period, Row}
use Rattle.model.specs.Statements.{days_of}
use Rattle.rowlaws.specs.Rows.{Has}
use Rattle.rowlaws.specs.Cutting.{part, if_days}
use Rattle.rowlaws.proofs.Members.{has_left, has_right}
use Rattle.rowlaws.proofs.Least.{IsLeast, find_day}
use Rattle.sqlchecks.specs.declared.comparison.Comparison.{Comparison}
use Rattle.sqlread.specs.declared.statement.Assignment.{Assignment}
use Rattle.sqlread.specs.Meaning.{set_of}
use Rattle.current.specs.declared.correction.Correction.{Correction}
use Rattle.current.specs.Corrections.{action_of_correction, correction_action, made}
use Rattle.current.specs.Suspects.{IsIn}

-- ---- what comes of a call

pub if_ok : {A E : Type 0} (r : Result A E) (F G : A → Type 0) → IfOk r F → ((a : A) → F a → G a) → IfOk r G
if_ok (Ok a) F G f map = map a f
if_ok (Err e) F G f map = tt

pub never_ok : {A E : Type 0} (r : Result A E) (F : A → Type 0) → IfOk r F → ((a : A) → F a → ⊥) → IsErr r
never_ok (Ok a) F f none = absurd (none a f)
never_ok (Err e) F f none = refl

-- ---- the parts of a row that is cut

some_days : (s e : ℕ) (x : Row) → s < e → Has (if_days s e x) x
some_days s e x h = rw (lt-ltb s e h) (inl refl)

first_made : (conditions : List Comparison) (p : Period) (assignments : Option (Bor (List Assignment))) (t : ℕ) (r : Row) → r.period.start < p.start → Has (made (correction_action conditions p assignments) t r) (part r r.period.start p.start r.values t)
first_made conditions p None t r h = has_left (if_days r.period.start p.start (part r r.period.start p.start r.values t)) (if_days p.end r.period.end (part r p.end r.period.end r.values t)) _ (some_days _ _ _ h)
first_made conditions p (Some a) t r h = has_left (if_days r.period.start p.start (part r r.period.start p.start r.values t)) (part r (max r.period.start p.start) (min r.period.end p.end) (unwrap_or (set_of a.now r.values) r.values) t ∷ if_days p.end r.period.end (part r p.end r.period.end r.values t)) _ (some_days _ _ _ h)

last_made : (conditions : List Comparison) (p : Period) (assignments : Option (Bor (List Assignment))) (t : ℕ) (r : Row) → p.end < r.period.end → Has (made (correction_action conditions p assignments) t r) (part r p.end r.period.end r.values t)
last_made conditions p None t r h = has_right (if_days r.period.start p.start (part r r.period.start p.start r.values t)) (if_days p.end r.period.end (part r p.end r.period.end r.values t)) _ (some_days _ _ _ h)
last_made conditions p (Some a) t r h = has_right (if_days r.period.start p.start (part r r.period.start p.start r.values t)) (part r (max r.period.start p.start) (min r.period.end p.end) (unwrap_or (set_of a.now r.values) r.values) t ∷ if_days p.end r.period.end (part r p.end r.period.end r.values t)) _ (inr (some_days _ _ _ h))

pub before_made : (rows : List Row) (c : Correction) (r : Row) → rows ≡ made (action_of_correction c) c.system_start r → r.period.start < c.portion.start.number → Has rows (part r r.period.start c.portion.start.number r.values c.system_start)
before_made rows c r is h = subst (λ xs. Has xs (part r r.period.start c.portion.start.number r.values c.system_start)) (sym is) (first_made _ _ c.assignments c.system_start r h)

pub after_made : (rows : List Row) (c : Correction) (r : Row) → rows ≡ made (action_of_correction c) c.system_start r → c.portion.end.number < r.period.end → Has rows (part r c.portion.end.number r.period.end r.values c.system_start)
after_made rows c r is h = subst (λ xs. Has xs (part r c.portion.end.number r.period.end r.values c.system_start)) (sym is) (last_made _ _ c.assignments c.system_start r h)

pub among_more : (old more rows : List Row) (x : Row) → rows ≡ old ++ more → Has more x → Has rows x
among_more old more rows x is h = subst (λ xs. Has xs x) (sym is) (has_right old more x h)

-- ---- days that no row has

hit : (f : ℕ → Bool) (s e d : ℕ) → s ≤ d → d < e → f d ≡ true → (o : Option ℕ) → IsLeast f s e o → is_some o ≡ true
hit f s e d a b h None g = let q : false ≡ true = sym (g d a b) ∙ h in cc
hit f s e d a b h (Some x) g = refl

found : (f : ℕ → Bool) (p : Period) (d : ℕ) → p.start ≤ d → d < p.end → f d ≡ true → is_some (find f (days_of p)) ≡ true
found f p d a b h = hit f p.start p.end d a b h (find f (days_of p)) (find_day f p (omega arith))

same_some : (day : Option Day) (o : Option ℕ) → option_map (λ d. d.number) day ≡ o → is_some o ≡ true → is_some day ≡ true
same_some None o e h = subst (λ x. is_some x ≡ true) (sym e) h
same_some (Some day) o e h = refl

pub hole_told : (day : Option Day) (f : ℕ → Bool) (p : Period) (d : ℕ) → option_map (λ d. d.number) day ≡ find f (days_of p) → p.start ≤ d → d < p.end → f d ≡ true → is_some day ≡ true
hole_told day f p d e a b h = same_some day (find f (days_of p)) e (found f p d a b h)

pub span_told : (span : Option DeclaredPeriod) (d : ℕ) → IsIn span d → is_some span ≡ true
span_told None d h = absurd h
span_told (Some p) d h = refl
