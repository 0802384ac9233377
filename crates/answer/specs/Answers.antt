-- What a contract sees of an answer, and which columns it has.
use Rattle.std.specs.Prelude.{ℕ, ◌==◌, List, [], ◌∷◌, map, flat_map, slice_get, Option, Some, option_map, if◌then◌else◌}
use Rattle.std.specs.List.{enumerate_from}
use Rattle.std.specs.Option.{option_map_or}
use Rattle.model.specs.Tables.{Row}
use Rattle.model.specs.Periods.{period_of}
use Rattle.model.specs.Answers.{Answer as ModelAnswer, Shown as ModelShown}
use Rattle.schema.specs.Shape.{TableShape}
use Rattle.schema.specs.declared.table.Kind.{Kind}
use Rattle.sqlchecks.specs.Columns.{Tables, field_at}
use Rattle.sqlchecks.specs.declared.field.Field.{Field}
use Rattle.sqlchecks.specs.declared.field.Field.TheVariants as fields
use Rattle.answer.specs.declared.Shows.{Shows}
use Rattle.answer.specs.declared.Shows.TheVariants.{Key, Value, Start, End, SystemStart, SystemEnd}
use Rattle.answer.specs.declared.Column.{Column}
use Rattle.answer.specs.declared.Shown.{Shown}
use Rattle.answer.specs.declared.Answer.{Answer}

abbrev pub row_of : Shown → Row
row_of s = record { key = s.key.items; period = period_of s.period; values = s.values.items; system_start = s.system_start }

abbrev pub shown_of : Shown → ModelShown
shown_of s = record { row = row_of s; end = s.end }

-- the last instant and the rows, as the definitions have them
abbrev pub answer_of : Answer → ModelAnswer
answer_of a = record { last = a.last; rows = map shown_of a.rows.items }

-- ---- columns

-- where a row keeps a column of its key or of its values
abbrev pub shows_field : Field → Shows
shows_field (fields.Key i) = Key i
shows_field (fields.Value i) = Value i

-- what the column at this place of a table shows, if that is something of a row
unfoldable pub shows_at : TableShape → ℕ → Option Shows
shows_at table c =
    if c == table.start then Some Start
    else if c == table.end then Some End
    else if c == table.system_start then Some SystemStart
    else if c == table.system_end then Some SystemEnd
    else option_map shows_field (field_at table c)

-- the column of this name at this place of a table, if it shows something
abbrev pub column_at : TableShape → ℕ × (List ℕ × Kind) → List Column
column_at table c = option_map_or (λ shows. record { name = c.1.0; shows = shows } ∷ []) (shows_at table c.0) []

-- the columns of a table in declared order
unfoldable pub table_columns : TableShape → List Column
table_columns table = flat_map (column_at table) (enumerate_from 0 table.columns)

-- those of the table at this place, none where there is no such table
unfoldable pub columns_in : Tables → ℕ → List Column
columns_in tables place = option_map_or (λ t. table_columns t.1) (slice_get tables place) []
