-- Tables and columns by their names, and where a row keeps the value of a column.
use Rattle.std.specs.Prelude.{ℕ, ◌==◌, List, map, position, slice_get, Option, option_map, option_and_then, Result}
use Rattle.std.specs.Option.{option_or}
use Rattle.fault.specs.declared.refusal.Refusal.{Refusal}
use Rattle.fault.specs.declared.refusal.Refusal.TheVariants.{UnknownTable, UnknownColumn}
use Rattle.model.specs.declared.value.Value.{Value as RowValue}
use Rattle.schema.specs.Name.{same_name}
use Rattle.schema.specs.Shape.{TableShape}
use Rattle.schema.specs.declared.table.Kind.{Kind}
use Rattle.namesyntax.specs.Names.{Bytes}
use Rattle.sqlchecks.specs.declared.field.Field.{Field}
use Rattle.sqlchecks.specs.declared.field.Field.TheVariants.{Key, Value}
use Rattle.sqlchecks.specs.Answering.{or_refuse}

-- the tables of a schema, by their names
abbrev pub Tables : Type 0
Tables = List (List ℕ × TableShape)

-- the place of the table of this name: 11
unfoldable pub table_named : Tables → Bytes → Result ℕ Refusal
table_named tables name = or_refuse UnknownTable (position (same_name name) (map (λ t. t.0) tables))

abbrev pub column_at : TableShape → ℕ → Option (ℕ × Kind)
column_at table place = option_map (λ c. (place, c.1)) (slice_get table.columns place)

-- the place and the kind of the column of this name: 12
unfoldable pub column_named : TableShape → Bytes → Result (ℕ × Kind) Refusal
column_named table name = or_refuse UnknownColumn (option_and_then (column_at table) (position (same_name name) (map (λ c. c.0) table.columns)))

-- where a row keeps this column: in its key or among its values, or nowhere
unfoldable pub field_at : TableShape → ℕ → Option Field
field_at table column = option_or (option_map Key (position (λ c. c == column) table.key)) (option_map Value (position (λ c. c == column) table.values))

-- what a row with this key and these values has there
unfoldable pub kept_at : List RowValue → List RowValue → Field → Option RowValue
kept_at key values (Key i) = slice_get key i
kept_at key values (Value i) = slice_get values i
