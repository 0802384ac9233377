-- INSERT, UPDATE and DELETE on a list of a table's rows: what a program computes in place of days.
use Rattle.std.specs.Prelude.{◌≡◌, ℕ, ◌<◌, ◌≤◌, ◌⊎◌, Bool, false, ◌&&◌, nat_lt, Option, is_none, List, [], ◌∷◌, ◌++◌, if◌then◌else◌, Result, Ok, Err}
use Rattle.std.specs.List.{list_any}
use Rattle.fault.specs.declared.refusal.Refusal.{Refusal}
use Rattle.fault.specs.declared.refusal.Refusal.TheVariants.{KeyOverlap, NumberRange}
use Rattle.model.specs.declared.value.Value.{Value}
use Rattle.model.specs.Values.{same_key}
use Rattle.model.specs.Tables.{days, Period, Table, Row, IsRow}
use Rattle.model.specs.Statements.{meets, insert_overlaps, inserted, set_overflows}
use Rattle.model.specs.Transactions.{Action, Insert, Update, Delete, changed}
use Rattle.rowlaws.specs.Rows.{Lists}
use Rattle.rowlaws.specs.Cutting.{cut_rows, removed_rows}

-- a period that is inserted has a day, and none past the last; a portion has a day
abbrev pub IsFine : Action → Type 0
IsFine (Insert key values p) = (p.start < p.end) × (p.end ≤ days)
IsFine (Update passes p set) = p.start < p.end
IsFine (Delete passes p) = p.start < p.end

-- the row that INSERT makes
abbrev pub new_row : List Value → List Value → Period → ℕ → Row
new_row key values p t = record { key = key; period = p; values = values; system_start = t }

-- 20: the row has the key and a day of the period
abbrev pub clashes : List Value → Period → Row → Bool
clashes key p r = same_key r.key key && nat_lt r.period.start p.end && nat_lt p.start r.period.end

-- 23: the row is met, and SET of it is out of range
abbrev pub overflows : (Row → Bool) → Period → (List Value → Option (List Value)) → Row → Bool
overflows passes p set r = meets passes p r && is_none (set r.values)

-- the rows after the action at instant t, or its refusal 20 or 23
unfoldable pub rows_changed : Action → ℕ → List Row → Result (List Row) Refusal
rows_changed (Insert key values p) t rows = if list_any (clashes key p) rows then Err KeyOverlap else Ok (rows ++ new_row key values p t ∷ [])
rows_changed (Update passes p set) t rows = if list_any (overflows passes p set) rows then Err NumberRange else Ok (cut_rows passes p set t rows)
rows_changed (Delete passes p) t rows = Ok (removed_rows passes p t rows)

-- ---- how lists of rows and days are tied

-- both are Ok with values that are tied, or both refuse for one cause
abbrev pub SameResult : {A B : Type 0} → (A → B → Type 0) → Result A Refusal → Result B Refusal → Type 0
SameResult tied (Ok a) (Ok b) = tied a b
SameResult tied (Ok a) (Err f) = ⊥
SameResult tied (Err e) (Ok b) = ⊥
SameResult tied (Err e) (Err f) = e ≡ f

-- each row of the newer table is one of the older, or was born at t
abbrev pub Follows : ℕ → Table → Table → Type 0
Follows t old new = (row : Row) → IsRow new row → IsRow old row ⊎ (row.system_start ≡ t)

-- ---- laws

-- an INSERT is refused 20 exactly where a row has its key and a day of its period
abbrev pub OverlapsOnRows : Type 0
OverlapsOnRows = (rows : List Row) (old : Table) (key : List Value) (p : Period) →
    Lists rows old → p.start < p.end → insert_overlaps key p old ≡ list_any (clashes key p) rows

-- INSERT adds one row
abbrev pub InsertOnRows : Type 0
InsertOnRows = (key values : List Value) (p : Period) (t : ℕ) (old : Table) (rows : List Row) →
    (p.start < p.end) × (p.end ≤ days) → insert_overlaps key p old ≡ false → Lists rows old → Lists (rows ++ new_row key values p t ∷ []) (inserted key values p t old)

-- an UPDATE is refused 23 exactly where SET of a row that is met is out of range
abbrev pub OverflowsOnRows : Type 0
OverflowsOnRows = (rows : List Row) (old : Table) (passes : Row → Bool) (p : Period) (set : List Value → Option (List Value)) →
    Lists rows old → p.start < p.end → set_overflows passes p set old ≡ list_any (overflows passes p set) rows

-- an action on a list of rows comes to what it comes to on days
abbrev pub ActionOnRows : Type 0
ActionOnRows = (c : Action) (t : ℕ) (rows : List Row) (old : Table) → IsFine c → Lists rows old → SameResult Lists (rows_changed c t rows) (changed c t old)

-- each row that an action leaves was there before, or is born with it
abbrev pub ActionFollows : Type 0
ActionFollows = (c : Action) (t : ℕ) (rows : List Row) (old new : Table) → IsFine c → Lists rows old → changed c t old ≡ Ok new → Follows t old new

-- and so of two actions in turn
abbrev pub FollowsThen : Type 0
FollowsThen = (t : ℕ) (a b c : Table) → Follows t a b → Follows t b c → Follows t a c
