-- The parts that a portion makes of a period, known by their days alone.
use Rattle.std.specs.Prelude.{◌≡◌, ℕ, ◌<◌, Bool, ◌&&◌, nat_lt, nat_le, unwrap_or, IsTrue, Option, Some, None, List, [], ◌∷◌, ◌++◌}
use Rattle.period.specs.declared.period.Period.{Period as Declared}
use Rattle.model.specs.declared.value.Value.{Value}
use Rattle.model.specs.Tables.{Period, Row, inside}
use Rattle.model.specs.Periods.{has_day}
use Rattle.model.specs.Statements.{meets}
use Rattle.rowlaws.specs.Cutting.{part, pieces, rest}

-- the days of the parts are those of x before the portion, within it and after it
pub record AreParts (x portion : Period) (before within after : Option Declared) : Type 0 where
  pub before_days : (d : ℕ) → has_day before d ≡ (inside x d && nat_lt d portion.start)
  pub within_days : (d : ℕ) → has_day within d ≡ (inside x d && inside portion d)
  pub after_days : (d : ℕ) → has_day after d ≡ (inside x d && nat_le portion.end d)

-- the row that a part of r becomes, if it is there
abbrev pub row_of_part : Row → Option Declared → List Value → (t : ℕ) → List Row
row_of_part r None values t = []
row_of_part r (Some p) values t = part r p.start.number p.end.number values t ∷ []

-- ---- laws

-- the parts of a row that is met are the rows that UPDATE makes of it
abbrev pub PartsOfUpdate : Type 0
PartsOfUpdate = (passes : Row → Bool) (r : Row) (p : Period) (before within after : Option Declared) (set : List Value → Option (List Value)) (t : ℕ) →
    r.period.start < r.period.end → p.start < p.end → IsTrue (meets passes p r) → AreParts r.period p before within after →
    row_of_part r before r.values t ++ (row_of_part r within (unwrap_or (set r.values) r.values) t ++ row_of_part r after r.values t) ≡ pieces p set t r

-- the parts of a row that is met are the rows that DELETE leaves of it
abbrev pub PartsOfDelete : Type 0
PartsOfDelete = (passes : Row → Bool) (r : Row) (p : Period) (before within after : Option Declared) (t : ℕ) →
    r.period.start < r.period.end → p.start < p.end → IsTrue (meets passes p r) → AreParts r.period p before within after →
    row_of_part r before r.values t ++ row_of_part r after r.values t ≡ rest p t r
