-- Whether tables have what a statement names.
use Rattle.std.specs.Prelude.{ℕ, ◌==◌, ◌&&◌, ◌||◌, not, Bool, false, List, length, is_some, slice_get, option_and_then}
use Rattle.std.specs.List.{range_with_len, list_all, list_any}
use Rattle.std.specs.Option.{option_map_or}
use Rattle.schema.specs.Shape.{TableShape}
use Rattle.sqlchecks.specs.declared.field.Field.{Field}
use Rattle.sqlchecks.specs.declared.field.Field.TheVariants as field
use Rattle.sqlchecks.specs.declared.comparison.Comparison.{Comparison}
use Rattle.sqlchecks.specs.Columns.{Tables, field_at, kept_at}
use Rattle.sqlread.specs.declared.statement.Assignment.{Assignment}
use Rattle.sqlread.specs.Changes.{is_system}
use Rattle.sqlread.specs.Shapes.{InsertShape, StatementShape, Insert, Update, Delete}
use Rattle.sqlread.specs.Meaning.{table_of}
use Rattle.rowtext.specs.Transactions.{column_of}

-- the table has the column that a row keeps there
abbrev pub has_field : TableShape → Field → Bool
has_field table f = is_some (option_and_then (slice_get table.columns) (column_of table f))

-- the row has a value for the column: an end of its period, or one that it keeps
abbrev pub has_cell : TableShape → InsertShape → ℕ → Bool
has_cell table row c = (c == table.start) || (c == table.end) || is_some (option_and_then (kept_at row.key row.values) (field_at table c))

abbrev pub places : TableShape → List ℕ
places table = range_with_len 0 (length table.columns)

-- there are columns to give, and the row has a value for each
abbrev pub has_cells : TableShape → InsertShape → Bool
has_cells table row = list_any (λ c. not (is_system table c)) (places table) && list_all (λ c. is_system table c || has_cell table row c) (places table)

abbrev pub has_compared : TableShape → List Comparison → Bool
has_compared table conditions = list_all (λ c. has_field table c.field) conditions

-- something is assigned, and each to a column of the table
abbrev pub has_assigned : TableShape → List Assignment → Bool
has_assigned table assignments = not (length assignments == 0) && list_all (λ a. has_field table (field.Value a.place)) assignments

abbrev pub has_columns : TableShape → StatementShape → Bool
has_columns table (Insert s) = has_cells table s
has_columns table (Update s) = has_assigned table s.assignments && has_compared table s.conditions
has_columns table (Delete s) = has_compared table s.conditions

-- the tables have the statement's table, with the columns that it names
abbrev pub has_named : Tables → StatementShape → Bool
has_named tables s = option_map_or (λ t. has_columns t.1 s) (slice_get tables (table_of s)) false
