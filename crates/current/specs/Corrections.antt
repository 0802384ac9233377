-- What UPDATE and DELETE make of one row.
use Rattle.std.specs.Prelude.{◌≡◌, ℕ, Bool, IsSome, false, Option, Some, None, List, [], ◌∷◌, if◌then◌else◌}
use denote.Ref.{Bor}
use Rattle.period.specs.declared.period.Period.{Period as DeclaredPeriod}
use Rattle.model.specs.declared.value.Value.{Value}
use Rattle.model.specs.Tables.{Period, Row}
use Rattle.model.specs.Periods.{period_of}
use Rattle.model.specs.Statements.{meets}
use Rattle.model.specs.Transactions.{Action, Insert, Update, Delete}
use Rattle.rowlaws.specs.Cutting.{pieces, rest}
use Rattle.rowlaws.specs.Parts.{row_of_part}
use Rattle.rowlaws.specs.Changes.{overflows}
use Rattle.rowlaws.specs.Touching.{rows_without}
use Rattle.sqlchecks.specs.declared.comparison.Comparison.{Comparison}
use Rattle.sqlchecks.specs.Comparisons.{passes_all}
use Rattle.sqlread.specs.declared.statement.Assignment.{Assignment}
use Rattle.sqlread.specs.Meaning.{set_of}
use Rattle.current.specs.declared.correction.Correction.{Correction}

abbrev pub correction_action : List Comparison → Period → Option (Bor (List Assignment)) → Action
correction_action conditions p None = Delete (passes_all conditions) p
correction_action conditions p (Some assignments) = Update (passes_all conditions) p (set_of assignments.now)

abbrev pub action_of_correction : Correction → Action
action_of_correction c = correction_action c.conditions.now (period_of c.portion) c.assignments

-- what SET makes of the values: none for DELETE
abbrev pub AreSet : Option (Bor (List Assignment)) → List Value → Option (List Value) → Type 0
AreSet None old new = new ≡ None
AreSet (Some assignments) old new = (new ≡ set_of assignments.now old) × IsSome new

-- there is a SET, and it makes none
abbrev pub IsOutOfRange : Option (Bor (List Assignment)) → List Value → Type 0
IsOutOfRange None old = ⊥
IsOutOfRange (Some assignments) old = set_of assignments.now old ≡ None

-- the row that a part becomes with the new values, if there is a part and there are new values
abbrev pub new_part : Row → Option DeclaredPeriod → Option (List Value) → ℕ → List Row
new_part r part None t = []
new_part r part (Some values) t = row_of_part r part values t

-- the action meets the row
abbrev pub is_met : Action → Row → Bool
is_met (Insert key values p) r = false
is_met (Update passes p set) r = meets passes p r
is_met (Delete passes p) r = meets passes p r

-- 23: SET of the row is out of range
abbrev pub is_stuck : Action → Row → Bool
is_stuck (Insert key values p) r = false
is_stuck (Update passes p set) r = overflows passes p set r
is_stuck (Delete passes p) r = false

-- the rows that become of a row that is met
abbrev pub made : Action → ℕ → Row → List Row
made (Insert key values p) t r = r ∷ []
made (Update passes p set) t r = pieces p set t r
made (Delete passes p) t r = rest p t r

-- and of any row
abbrev pub kept : Action → ℕ → Row → List Row
kept c t r = if is_met c r then made c t r else (r ∷ [])

-- the row, if it goes
abbrev pub removed_at : Action → ℕ → Row → List Row
removed_at c t r = if is_met c r then rows_without (r ∷ []) (made c t r) else []

-- the rows that come in its place
abbrev pub added_at : Action → ℕ → Row → List Row
added_at c t r = if is_met c r then rows_without (made c t r) (r ∷ []) else []
