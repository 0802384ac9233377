-- Days that a key loses: filled before, and empty after. Only such a day can leave a row without a parent that had one.
use Rattle.std.specs.Prelude.{◌≡◌, ◌↔◌, ◌⊎◌, ℕ, ◌==◌, Bool, false, ◌&&◌, not, is_some, IsTrue, find, Ok, List, [], ◌++◌, map, filter}
use Rattle.std.specs.List.{list_any}
use Rattle.model.specs.declared.value.Value.{Value}
use Rattle.model.specs.Tables.{Period, inside, Table, Row, IsRow}
use Rattle.model.specs.Periods.{is_free}
use Rattle.model.specs.Statements.{days_of}
use Rattle.model.specs.Transactions.{State, Statement, Action, Insert, Update, Delete, changed, run_statements}
use Rattle.rowlaws.specs.Rows.{Has, Lists}
use Rattle.rowlaws.specs.Touching.{IsTouched}
use Rattle.rowlaws.specs.Covering.{periods_of}

-- the day was filled, and is no longer
abbrev pub is_lost : Table → Table → List Value → ℕ → Bool
is_lost old new k d = is_some (old.fact k d) && not (is_some (new.fact k d))

-- a row of the key that went has the day, and none that came has it
abbrev pub day_went : List Row → List Row → List Value → ℕ → Bool
day_went removed added k d = list_any (λ p. inside p d) (periods_of removed k) && is_free (periods_of added k) d

-- a day of the period is in none of these
abbrev pub is_uncovered : List Period → Period → Bool
is_uncovered periods p = is_some (find (is_free periods) (days_of p))

-- the key loses a day: one of a row that went, and of none that came
abbrev pub loses : List Row → List Row → List Value → Bool
loses removed added k = list_any (is_uncovered (periods_of added k)) (periods_of removed k)

-- the row that went has a day that no row of its key has now
abbrev pub has_lost_day : List Row → Row → Bool
has_lost_day more r = is_uncovered (periods_of more r.key) r.period

-- the days of a row that went that no row of its key has now
abbrev pub lost_days : List Row → Row → List ℕ
lost_days more r = filter (is_free (periods_of more r.key)) (days_of r.period)

-- the keys that lost a day, of the rows that went and those that stand now
abbrev pub losing_keys : List Row → List Row → List (List Value)
losing_keys removed more = map (λ r. r.key) (filter (has_lost_day more) removed)

-- ---- what was touched at the most: rows that came and went again may be among it

-- the rows that went are among these, and so are those that came
pub record IsTouchedAmong (old new : Table) (removed added : List Row) : Type 0 where
  pub stay : (row : Row) → IsRow old row → IsRow new row ⊎ Has removed row
  pub comes : (row : Row) → IsRow new row → IsRow old row ⊎ Has added row

-- ---- actions

-- the days that an action may empty: those of a DELETE's portion
abbrev pub may_empty : Action → ℕ → Bool
may_empty (Insert key values p) d = false
may_empty (Update passes p set) d = false
may_empty (Delete passes p) d = inside p d

-- the statement may empty this day in table n
abbrev pub may_empty_in : ℕ → ℕ → Statement → Bool
may_empty_in n d s = n == s.table && may_empty s.action d

-- ---- laws

-- which days a key loses, by the rows that went and those that came
abbrev pub LostDay : Type 0
LostDay = (rows more : List Row) (old new : Table) (removed added : List Row) (k : List Value) (d : ℕ) →
    Lists rows old → Lists more new → IsTouched old new removed added → is_lost old new k d ≡ day_went removed added k d

-- and whether it loses any
abbrev pub LosesDay : Type 0
LosesDay = (rows more : List Row) (old new : Table) (removed added : List Row) (k : List Value) →
    Lists rows old → Lists more new → IsTouched old new removed added → IsTrue (loses removed added k) ↔ ((d : ℕ) × IsTrue (is_lost old new k d))

-- the same by the rows that stand now: a key loses a day exactly if it is one of these
abbrev pub LosingKeys : Type 0
LosingKeys = (rows more : List Row) (old new : Table) (removed added : List Row) (k : List Value) →
    Lists rows old → Lists more new → IsTouched old new removed added → Has (losing_keys removed more) k ↔ ((d : ℕ) × IsTrue (is_lost old new k d))

-- where more is told of, no such key is missing
abbrev pub LosingAmong : Type 0
LosingAmong = (rows more : List Row) (old new : Table) (removed added : List Row) (k : List Value) (d : ℕ) →
    Lists rows old → Lists more new → IsTouchedAmong old new removed added → IsTrue (is_lost old new k d) → Has (losing_keys removed more) k

-- what was touched is among itself; nothing is, between a table and itself; and what two actions touch is among both
abbrev pub TouchedAmong : Type 0
TouchedAmong = (old new : Table) (removed added : List Row) → IsTouched old new removed added → IsTouchedAmong old new removed added

abbrev pub UntouchedAmong : Type 0
UntouchedAmong = (table : Table) → IsTouchedAmong table table [] []

abbrev pub AmongBoth : Type 0
AmongBoth = (a b c : Table) (removed added later_removed later_added : List Row) →
    IsTouchedAmong a b removed added → IsTouchedAmong b c later_removed later_added → IsTouchedAmong a c (removed ++ later_removed) (added ++ later_added)

-- an INSERT and an UPDATE lose no day, and a DELETE only days of its portion
abbrev pub LostByAction : Type 0
LostByAction = (c : Action) (t : ℕ) (old new : Table) (k : List Value) (d : ℕ) → changed c t old ≡ Ok new → IsTrue (is_lost old new k d) → IsTrue (may_empty c d)

-- so statements in turn lose a day of a table only where one of them is a DELETE from that table with the day in its portion
abbrev pub LostByStatements : Type 0
LostByStatements = (t : ℕ) (ss : List Statement) (state next : State) (n : ℕ) (k : List Value) (d : ℕ) →
    run_statements t ss state ≡ Ok next → IsTrue (is_lost (state n) (next n) k d) → IsTrue (list_any (may_empty_in n d) ss)
