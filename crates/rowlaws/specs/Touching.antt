-- What an action touches: the rows that go and those that come.
use Rattle.std.specs.Prelude.{◌≡◌, ◌⊎◌, ℕ, ◌<◌, ◌==◌, Bool, ◌&&◌, not, Ok, List, [], ◌∷◌, ◌++◌, filter, flat_map}
use Rattle.std.specs.List.{list_any}
use Rattle.model.specs.Values.{same_key}
use Rattle.model.specs.Tables.{Table, Row, IsRow}
use Rattle.model.specs.Statements.{meets}
use Rattle.model.specs.Transactions.{Action, Insert, Update, Delete, changed}
use Rattle.rowlaws.specs.Rows.{Has, Apart, Lists}
use Rattle.rowlaws.specs.Cutting.{pieces, rest}
use Rattle.rowlaws.specs.Changes.{IsFine, Follows, new_row}

-- the two are one row: each row is its key, period, values and system start
abbrev pub same_row : Row → Row → Bool
same_row a b = same_key a.key b.key && a.period.start == b.period.start && a.period.end == b.period.end && same_key a.values b.values && a.system_start == b.system_start

-- the rows of the first list that are not in the second
unfoldable pub rows_without : List Row → List Row → List Row
rows_without rows more = filter (λ r. not (list_any (same_row r) more)) rows

-- the rows that the older table has and the newer not, and those that the newer has and the older not, each once
pub record IsTouched (old new : Table) (removed added : List Row) : Type 0 where
  pub went : (row : Row) → Has removed row → IsRow old row × (IsRow new row → ⊥)
  pub stay : (row : Row) → IsRow old row → IsRow new row ⊎ Has removed row
  pub came : (row : Row) → Has added row → IsRow new row × (IsRow old row → ⊥)
  pub comes : (row : Row) → IsRow new row → IsRow old row ⊎ Has added row
  pub removed_once : Apart removed
  pub added_once : Apart added

-- ---- one action, by the rows that it meets alone

-- the rows that an action meets
abbrev pub met_by : Action → List Row → List Row
met_by (Insert key values p) rows = []
met_by (Update passes p set) rows = filter (meets passes p) rows
met_by (Delete passes p) rows = filter (meets passes p) rows

-- what it makes of them
abbrev pub made_by : Action → ℕ → List Row → List Row
made_by (Insert key values p) t rows = new_row key values p t ∷ []
made_by (Update passes p set) t rows = flat_map (pieces p set t) (filter (meets passes p) rows)
made_by (Delete passes p) t rows = flat_map (rest p t) (filter (meets passes p) rows)

-- the rows that go: one that is made again as it was stays
abbrev pub removed_by : Action → ℕ → List Row → List Row
removed_by c t rows = rows_without (met_by c rows) (made_by c t rows)

-- the rows that come
abbrev pub added_by : Action → ℕ → List Row → List Row
added_by c t rows = rows_without (made_by c t rows) (met_by c rows)

-- ---- two actions in turn: a row that comes and goes is in neither list

-- the rows that go with both
abbrev pub removed_both : List Row → List Row → List Row → List Row
removed_both removed added later_removed = removed ++ rows_without later_removed added

-- the rows that come with both
abbrev pub added_both : List Row → List Row → List Row → List Row
added_both added later_removed later_added = rows_without added later_removed ++ later_added

-- ---- laws

-- between a table and itself nothing is touched
abbrev pub Untouched : Type 0
Untouched = (table : Table) → IsTouched table table [] []

-- what is touched is found by comparing two lists of rows
abbrev pub Touched : Type 0
Touched = (rows more : List Row) (old new : Table) → Lists rows old → Lists more new → IsTouched old new (rows_without rows more) (rows_without more rows)

-- what an accepted action touches, by the rows that it meets alone
abbrev pub TouchedBy : Type 0
TouchedBy = (c : Action) (t : ℕ) (rows : List Row) (old new : Table) →
    IsFine c → Lists rows old → changed c t old ≡ Ok new → IsTouched old new (removed_by c t rows) (added_by c t rows)

-- what two actions touch in one transaction, at an instant after each system start in the first table
abbrev pub TouchedThen : Type 0
TouchedThen = (t : ℕ) (a b c : Table) (removed added later_removed later_added : List Row) →
    IsTouched a b removed added → IsTouched b c later_removed later_added → Follows t a b → Follows t b c → ((r : Row) → IsRow a r → r.system_start < t) →
    IsTouched a c (removed_both removed added later_removed) (added_both added later_removed later_added)

-- the rows before an action, from those after it and what it touched
abbrev pub Undo : Type 0
Undo = (rows more : List Row) (old new : Table) (removed added : List Row) →
    Lists rows old → Lists more new → IsTouched old new removed added → Lists (rows_without more added ++ removed) old
