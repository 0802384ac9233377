-- The text of a transaction: the line of the tokens that the grammar has for each of its statements, in its plainest form.
use Rattle.std.specs.Prelude.{ℕ, ℤ, pos, negsuc, suc, ◌==◌, not, if◌then◌else◌, List, [], ◌∷◌, ◌++◌, length, map, filter, filter_map, flat_map, slice_get, Option, Some, None, option_map, option_and_then, decimal}
use Rattle.std.specs.List.{range_with_len}
use Rattle.std.specs.Option.{option_map_or}
use mathlib.Core.Logic.{inl, inr}
use Rattle.period.specs.Day.{day_text}
use Rattle.model.specs.declared.value.Value.{Value as RowValue}
use Rattle.model.specs.declared.value.Value.TheVariants as value
use Rattle.model.specs.Tables.{Period}
use Rattle.model.specs.Texts.{doubled, value_text}
use Rattle.schema.specs.Shape.{TableShape}
use Rattle.namesyntax.specs.Names.{Bytes}
use Rattle.sqlsyntax.specs.Shared.{LiteralForm, literal, ComparisonForm}
use Rattle.sqlsyntax.specs.Transactions.{PortionForm, ValueForm, AssignmentForm, InsertForm, UpdateForm, DeleteForm, StatementForm, statement}
use Rattle.sqlchecks.specs.declared.field.Field.{Field}
use Rattle.sqlchecks.specs.declared.field.Field.TheVariants as field
use Rattle.sqlchecks.specs.declared.comparison.Comparison.{Comparison}
use Rattle.sqlchecks.specs.Columns.{Tables, field_at, kept_at}
use Rattle.sqlread.specs.declared.statement.NewValue.{NewValue}
use Rattle.sqlread.specs.declared.statement.NewValue.TheVariants as values
use Rattle.sqlread.specs.declared.statement.Assignment.{Assignment}
use Rattle.sqlread.specs.Changes.{is_system}
use Rattle.sqlread.specs.Shapes.{InsertShape, UpdateShape, DeleteShape, StatementShape, Insert, Update, Delete}
use Rattle.sqlread.specs.Meaning.{table_of}
use Rattle.rowtext.specs.Spacing.{Start, line}

-- ---- values

-- the digits of a number, with a minus where it is below 0
abbrev pub number_of : ℤ → Option (Unit {0}) × Bytes
number_of (pos n) = (None, decimal n)
number_of (negsuc n) = (Some tt, decimal (suc n))

abbrev pub literal_of : RowValue → LiteralForm
literal_of (value.Number n) = inr (inr (number_of n))
literal_of (value.Text t) = inr (inl (doubled t))
literal_of (value.Day d) = inl (value_text (value.Day d))

-- ---- columns

-- as it is declared
abbrev pub column_name : TableShape → ℕ → Bytes
column_name table column = option_map_or (λ c. c.0) (slice_get table.columns column) []

abbrev pub column_of : TableShape → Field → Option ℕ
column_of table (field.Key i) = slice_get table.key i
column_of table (field.Value i) = slice_get table.values i

abbrev pub field_name : TableShape → Field → Bytes
field_name table f = option_map_or (column_name table) (column_of table f) []

-- ---- INSERT

-- every column but the system columns, in declared order
abbrev pub given_columns : TableShape → List ℕ
given_columns table = filter (λ c. not (is_system table c)) (range_with_len 0 (length table.columns))

-- the value of a column
abbrev pub cell_of : TableShape → InsertShape → ℕ → LiteralForm
cell_of table row c =
    if c == table.start then inl (day_text row.period.start)
    else if c == table.end then inl (day_text row.period.end)
    else option_map_or literal_of (option_and_then (kept_at row.key row.values) (field_at table c)) literal.example

abbrev pub insert_form : Bytes → TableShape → InsertShape → InsertForm
insert_form name table row = (name, (map (column_name table) (given_columns table), map (cell_of table row) (given_columns table)))

-- ---- UPDATE and DELETE

abbrev pub portion_of : TableShape → Period → PortionForm
portion_of table p = (table.period, (day_text p.start, day_text p.end))

-- what the column of this name is set to
abbrev pub value_of : Bytes → NewValue → ValueForm
value_of name (values.Literal v) = inr (literal_of v)
value_of name (values.Plus n) = inl (name, (inl tt, decimal n))
value_of name (values.Minus n) = inl (name, (inr tt, decimal n))

abbrev pub assignment_of : TableShape → Assignment → AssignmentForm
assignment_of table a = let name = field_name table (field.Value a.place) in (name, value_of name a.value)

abbrev pub comparison_of : TableShape → Comparison → ComparisonForm
comparison_of table c = (field_name table c.field, (c.operator, literal_of c.value))

-- no WHERE where there is no condition
abbrev pub conditions_of : TableShape → List Comparison → Option (List ComparisonForm)
conditions_of table [] = None
conditions_of table (c ∷ cs) = Some (map (comparison_of table) (c ∷ cs))

abbrev pub update_form : Bytes → TableShape → UpdateShape → UpdateForm
update_form name table u = (name, (option_map (portion_of table) u.portion, (map (assignment_of table) u.assignments, conditions_of table u.conditions)))

abbrev pub delete_form : Bytes → TableShape → DeleteShape → DeleteForm
delete_form name table d = (name, (option_map (portion_of table) d.portion, conditions_of table d.conditions))

-- ---- statements

-- a statement on the table of this name and shape
abbrev pub form_of : Bytes → TableShape → StatementShape → StatementForm
form_of name table (Insert s) = inl (insert_form name table s)
form_of name table (Update s) = inr (inl (update_form name table s))
form_of name table (Delete s) = inr (inr (delete_form name table s))

-- a line, which LF ends: nothing where there is no such table
unfoldable pub statement_text : Tables → StatementShape → List ℕ
statement_text tables s = option_map_or (λ t. line Start (statement.spell (form_of t.0 t.1 s)) ++ 10 ∷ []) (slice_get tables (table_of s)) []

abbrev pub transaction_text : Tables → List StatementShape → List ℕ
transaction_text tables statements = flat_map (statement_text tables) statements

-- the forms of the statements whose tables are there
abbrev pub forms_of : Tables → List StatementShape → List StatementForm
forms_of tables list = filter_map (λ s. option_map (λ t. form_of t.0 t.1 s) (slice_get tables (table_of s))) list
