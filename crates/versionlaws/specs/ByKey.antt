-- Versions key by key.
use Rattle.std.specs.Prelude.{◌≡◌, ℕ, ◌<◌, ◌≤◌, Bool, List, length, filter}
use Rattle.model.specs.declared.value.Value.{Value}
use Rattle.model.specs.Values.{same_key}
use Rattle.model.specs.Tables.{Table, Row, IsRow}
use Rattle.rowlaws.specs.Rows.{Has}
use Rattle.versionlaws.specs.Versions.{Version, Holds}

-- the version is one of the key
abbrev pub is_of : List Value → Version → Bool
is_of key v = same_key v.row.key key

-- of each key the same versions, in the same order
abbrev pub SameByKey : List Version → List Version → Type 0
SameByKey versions others = (key : List Value) → filter (is_of key) versions ≡ filter (is_of key) others

-- ---- laws

-- in which order the versions of different keys stand does not matter
abbrev pub HeldByKey : Type 0
HeldByKey = (versions others : List Version) (history : ℕ → Table) (bound : ℕ) (current : Table) →
    Holds versions history bound current → SameByKey others versions → Holds others history bound current

-- A key has at most as many versions as different rows over all instants before the bound: as any list has that has each of
-- these rows.
abbrev pub FewVersions : Type 0
FewVersions = (versions : List Version) (history : ℕ → Table) (bound : ℕ) (current : Table) (key : List Value) (rows : List Row) →
    Holds versions history bound current → ((u : ℕ) (row : Row) → u < bound → IsRow (history u) row → row.key ≡ key → Has rows row) →
    length (filter (is_of key) versions) ≤ length rows
