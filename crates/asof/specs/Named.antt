-- The key and the day that a WHERE names, and how many versions a question tests.
use Rattle.std.specs.Prelude.{◌≡◌, ℕ, ◌<◌, ◌≤◌, Option, Some, None, List, [], ◌∷◌, length, filter, slice_get}
use Rattle.std.specs.Option.{option_or}
use Rattle.model.specs.declared.value.Value.{Value}
use Rattle.model.specs.Tables.{Table, Row, IsRow}
use Rattle.rowlaws.specs.Rows.{Has}
use Rattle.sqlread.specs.declared.term.Term.{Term}
use Rattle.sqlread.specs.declared.term.Term.TheVariants.{Compares, ContainsDay}
use Rattle.versionlaws.specs.Versions.{Version, Holds}
use Rattle.versionlaws.specs.ByKey.{is_of}
use Rattle.sysversion.specs.Days.{nearly_has}
use Rattle.current.specs.Named.{equal_at}

-- what a term says that the key column at this place is to be equal to
abbrev pub said_by : ℕ → Term → Option Value
said_by place (Compares c) = equal_at place c.operator c.field c.value
said_by place _ = None

-- the first term of WHERE that says it counts
abbrev pub said_at : ℕ → List Term → Option Value
said_at place [] = None
said_at place (t ∷ ts) = option_or (said_by place t) (said_at place ts)

-- WHERE has `=` for each column of the key
abbrev pub IsNamed : List Term → List Value → Type 0
IsNamed terms key = (place : ℕ) → place < length key → said_at place terms ≡ slice_get key place

abbrev pub day_by : Term → Option ℕ
day_by (ContainsDay day) = Some day.number
day_by _ = None

-- the day of the first term of WHERE that asks whether the period contains a day
abbrev pub day_of : List Term → Option ℕ
day_of [] = None
day_of (t ∷ ts) = option_or (day_by t) (day_of ts)

-- where WHERE names a key with as many columns as the versions' keys have, there are at most as many tests as versions of it
abbrev pub IsFew : List Term → List Version → ℕ → Type 0
IsFew terms versions tests = (key : List Value) → IsNamed terms key → ((v : Version) → Has versions v → length v.row.key ≡ length key) → tests ≤ length (filter (is_of key) versions)

-- and then at most as many tests as different rows of the key over all instants, where the versions hold these: as any list
-- has that has each of these rows
abbrev pub IsFewRows : List Term → List Version → ℕ → Type 0
IsFewRows terms versions tests = (key : List Value) → IsNamed terms key → ((v : Version) → Has versions v → length v.row.key ≡ length key) →
    (history : ℕ → Table) (bound : ℕ) (current : Table) (rows : List Row) → Holds versions history bound current →
    ((u : ℕ) (row : Row) → u < bound → IsRow (history u) row → row.key ≡ key → Has rows row) → tests ≤ length rows

-- Where it names a day besides, there are at most as many tests as versions of the key that have the day, or would have it if
-- their periods went on for as many days again.
abbrev pub IsFewOnDay : List Term → List Version → ℕ → Type 0
IsFewOnDay terms versions tests = (key : List Value) (day : ℕ) → IsNamed terms key → day_of terms ≡ Some day → ((v : Version) → Has versions v → length v.row.key ≡ length key) →
    tests ≤ length (filter (nearly_has day) (filter (is_of key) versions))
