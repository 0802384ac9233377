-- Versions of rows, in place of a table at each instant: the system-versioned tables of SQL:2011.
use Rattle.std.specs.Prelude.{◌≡◌, ℕ, ◌<◌, ◌≤◌, ◌↔◌, Option, Some, None, List, []}
use Rattle.model.specs.Tables.{Table, Row, IsRow, empty_table}
use Rattle.rowlaws.specs.Rows.{Has, Apart}

-- a row from its system start up to its end, or for good
pub record Version : Type 0 where
  pub row : Row
  pub end : Option ℕ

-- the instant is before the end
abbrev pub IsBefore : ℕ → Option ℕ → Type 0
IsBefore u None = Unit {0}
IsBefore u (Some end) = u < end

-- the version's system period has the instant
abbrev pub IsAlive : Version → ℕ → Type 0
IsAlive v u = (v.row.system_start ≤ u) × IsBefore u v.end

-- In what follows `history u` is the table at the instant u.

-- the versions say what the rows of the table are at each instant up to now
pub record Keeps (versions : List Version) (history : ℕ → Table) (now : ℕ) : Type 0 where
  pub rows : (u : ℕ) → u ≤ now → (row : Row) → IsRow (history u) row ↔ ((v : Version) × Has versions v × (v.row ≡ row) × IsAlive v u)
  pub once : (v w : Version) → Has versions v → Has versions w → v.row ≡ w.row → v ≡ w
  pub lasts : (v : Version) → Has versions v → IsBefore v.row.system_start v.end

-- The versions say what the rows of the table are at each instant before the bound, and those that have no end are the
-- current rows.
pub record Holds (versions : List Version) (history : ℕ → Table) (bound : ℕ) (current : Table) : Type 0 where
  pub rows : (u : ℕ) → u < bound → (row : Row) → IsRow (history u) row ↔ ((v : Version) × Has versions v × (v.row ≡ row) × IsAlive v u)
  pub open_rows : (row : Row) → IsRow current row ↔ ((v : Version) × Has versions v × (v.row ≡ row) × (v.end ≡ None))
  pub apart : Apart versions
  pub once : (v w : Version) → Has versions v → Has versions w → v.row ≡ w.row → v ≡ w
  pub lasts : (v : Version) → Has versions v → IsBefore v.row.system_start v.end
  pub born : (v : Version) → Has versions v → v.row.system_start < bound
  pub over : (v : Version) (e : ℕ) → Has versions v → v.end ≡ Some e → e < bound

-- ---- laws

-- before the first instant there are no versions, whatever comes
abbrev pub NoVersions : Type 0
NoVersions = (history : ℕ → Table) → Holds [] history 0 empty_table

-- the current rows are born before the bound
abbrev pub HeldBefore : Type 0
HeldBefore = (versions : List Version) (history : ℕ → Table) (bound : ℕ) (current : Table) (row : Row) → Holds versions history bound current → IsRow current row → row.system_start < bound

-- where the current rows stay, the same versions hold on
abbrev pub HeldOn : Type 0
HeldOn = (versions : List Version) (history later : ℕ → Table) (bound next : ℕ) (current : Table) → Holds versions history bound current → bound ≤ next →
    ((u : ℕ) → u < bound → later u ≡ history u) → ((u : ℕ) → bound ≤ u → u < next → later u ≡ current) → Holds versions later next current

-- what is held is kept up to each instant until which the current rows stay
abbrev pub HeldKept : Type 0
HeldKept = (versions : List Version) (history : ℕ → Table) (bound now : ℕ) (current : Table) →
    Holds versions history bound current → ((u : ℕ) → bound ≤ u → u ≤ now → history u ≡ current) → Keeps versions history now
