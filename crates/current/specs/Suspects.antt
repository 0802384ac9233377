-- References after a transaction, looked at where it touched.
use Rattle.std.specs.Prelude.{◌≡◌, ◌<◌, ◌≤◌, ℕ, Bool, ◌&&◌, nat_lt, IfSome, Option, Some, None, List, [], map, slice_get}
use Rattle.std.specs.Option.{option_map_or}
use Rattle.std.specs.List.{list_any}
use Rattle.model.specs.declared.value.Value.{Value}
use Rattle.model.specs.Values.{same_key}
use Rattle.model.specs.Tables.{Row}
use Rattle.schema.specs.Shape.{TableShape}
use Rattle.model.specs.Transactions.{Reference, Place}
use Rattle.period.specs.declared.period.Period.{Period}
use Rattle.rowlaws.specs.Rows.{Has}
use Rattle.rowlaws.specs.Statements.{Rows}
use Rattle.rowlaws.specs.Suspects.{first_among, suspects}
use Rattle.sqlchecks.specs.Columns.{Tables}
use Rattle.sqlread.specs.Meaning.{reference_of, values_at}
use Rattle.current.specs.declared.suspects.Lost.{Lost}
use Rattle.current.specs.declared.suspects.Search.{Search}
use Rattle.current.specs.Places.{rows_at}
use Rattle.current.specs.Table.{rows_of_table}

-- ---- lost days

-- the day is in the period
abbrev pub IsIn : Option Period → ℕ → Type 0
IsIn None d = ⊥
IsIn (Some p) d = (p.start.number ≤ d) × (d < p.end.number)

-- the key is among those that lost a day, and the day in the span
abbrev pub IsLost : Lost → List Value → ℕ → Type 0
IsLost lost k d = Has lost.keys.keys k × IsIn lost.span d

-- one of the rows starts no later than the period, and one ends no sooner
abbrev pub IsAcross : List Row → Period → Type 0
IsAcross rows p = ((q : Row) × Has rows q × (q.period.start ≤ p.start.number)) × ((q : Row) × Has rows q × (p.end.number ≤ q.period.end))

-- it tells of keys of these rows alone, and of no day before the first of theirs or after the last
abbrev pub IsOfLost : List Row → Lost → Type 0
IsOfLost rows lost =
    ((key : List Value) → Has lost.keys.keys key → Has (map (λ r. r.key) rows) key)
    × IfSome lost.span (IsAcross rows)

-- the row has a day of the span
abbrev pub meets_span : Period → Row → Bool
meets_span p r = nat_lt r.period.start p.end.number && nat_lt p.start.number r.period.end

-- by these columns the row refers to one of the keys
abbrev pub refers_among : TableShape → List ℕ → List (List Value) → Row → Bool
refers_among table columns keys r = list_any (same_key (values_at table columns r.key r.values)) keys

-- ---- what was looked at

-- rows of table n, in any order, and the first day without a parent among them
abbrev pub IsFirstOf : List Reference → Rows → ℕ → List Row → Option Place → Type 0
IsFirstOf fs all n picked found = ((r : Row) → Has picked r → Has (all n) r) × (found ≡ first_among fs all n picked)

-- the rows of all tables, and the foreign keys of the table that is searched
abbrev pub rows_by : Search → Rows
rows_by s = rows_at rows_of_table s.tables.now

abbrev pub references_by : Search → List Reference
references_by s = map (reference_of s.place s.table.now) s.table.now.references

-- the foreign keys of the table at this place
abbrev pub references_at : ℕ → Tables → List Reference
references_at place tables = option_map_or (λ t. map (reference_of place t.1) t.1.references) (slice_get tables place) []

-- from the first day among some rows on to that among these and all that are wanted
abbrev pub LooksAt : Search → (Row → Type 0) → Option Place → Option Place → Type 0
LooksAt s wanted old new =
    (picked : List Row) → IsFirstOf (references_by s) (rows_by s) s.place picked old →
    (more : List Row) × IsFirstOf (references_by s) (rows_by s) s.place more new × ((r : Row) → Has picked r → Has more r) × ((r : Row) → wanted r → Has more r)

-- the first day without a parent among rows of table n, with all its suspects that stand now among them
abbrev pub IsFirstPicked : List Reference → Rows → Rows → Rows → ℕ → Option Place → Type 0
IsFirstPicked fs all removed added n found =
    (picked : List Row) × IsFirstOf fs all n picked found × ((r : Row) → Has (suspects fs all removed added n) r → Has (all n) r → Has picked r)
