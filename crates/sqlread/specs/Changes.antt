-- What INSERT, UPDATE and DELETE are checked for, in the order of the text, and the statements that they then are.
use Rattle.std.specs.Prelude.{ℕ, Bool, true, false, not, ◌||◌, ◌==◌, if◌then◌else◌, nat_lt, List, [], ◌∷◌, ◌++◌, length, map, find, zip, slice_get, Option, Some, None, option_map, option_and_then, ◌⊎◌, Result, Ok, Err}
use Rattle.std.specs.List.{list_any, list_all, range_with_len}
use Rattle.std.specs.Option.{option_map_or}
use Rattle.std.specs.Str.Parse.{digits_value}
use mathlib.Core.Logic.{inl, inr}
use Rattle.fault.specs.declared.refusal.Refusal.{Refusal}
use Rattle.fault.specs.declared.refusal.Refusal.TheVariants.{UnknownTable, UnknownColumn, WrongType, NotAssignable, EmptyPeriod, OutOfRange, TooLarge}
use Rattle.model.specs.declared.value.Value.{Value as RowValue}
use Rattle.model.specs.declared.value.Value.TheVariants as value
use Rattle.model.specs.Tables.{Period}
use Rattle.schema.specs.Name.{same_name}
use Rattle.schema.specs.Shape.{TableShape}
use Rattle.schema.specs.declared.table.Kind.{Kind}
use Rattle.schema.specs.declared.table.Kind.TheVariants.{Integer}
use Rattle.namesyntax.specs.Names.{Bytes}
use Rattle.sqlsyntax.specs.Shared.{LiteralForm}
use Rattle.sqlsyntax.specs.Transactions.{PortionForm, ValueForm, AssignmentForm, InsertForm, UpdateForm, DeleteForm, StatementForm}
use Rattle.sqlchecks.specs.declared.field.Field.{Field}
use Rattle.sqlchecks.specs.declared.field.Field.TheVariants as fields
use Rattle.sqlchecks.specs.Answering.{◌>>=◌, ◌>>◌, refuse_if, or_refuse, each_of}
use Rattle.sqlchecks.specs.Literals.{literal_in, period_named}
use Rattle.sqlchecks.specs.Columns.{Tables, table_named, column_named, field_at}
use Rattle.sqlchecks.specs.Comparisons.{comparisons_in}
use Rattle.sqlread.specs.declared.given.Given.{Given as GivenRead}
use Rattle.sqlread.specs.declared.statement.NewValue.{NewValue}
use Rattle.sqlread.specs.declared.statement.NewValue.TheVariants.{Literal, Plus, Minus}
use Rattle.sqlread.specs.declared.statement.Assignment.{Assignment}
use Rattle.sqlread.specs.Shapes.{InsertShape, UpdateShape, DeleteShape, StatementShape, Insert, Update, Delete}

-- the table of this name, with its place: 11
unfoldable pub in_table : {A : Type 0} → Tables → Bytes → (ℕ → TableShape → Result A Refusal) → Result A Refusal
in_table tables name f = do
  place ← table_named tables name
  table ← or_refuse UnknownTable (slice_get tables place)
  f place table.1

abbrev pub is_among : ℕ → List ℕ → Bool
is_among c cs = list_any (λ d. d == c) cs

-- ---- INSERT

abbrev pub is_system : TableShape → ℕ → Bool
is_system table c = c == table.system_start || c == table.system_end

-- a column of the list, which stands behind these columns: 12, then 14 for a system column and for one of these
unfoldable pub listed : TableShape → List (ℕ × Kind) → Bytes → Result (ℕ × Kind) Refusal
listed table before name = do
  column ← column_named table name
  refuse_if (is_system table column.0 || is_among column.0 (map (λ c. c.0) before)) NotAssignable
  Ok column

-- these columns and, in their order, those of the names
abbrev pub listed_after : TableShape → List (ℕ × Kind) → List Bytes → Result (List (ℕ × Kind)) Refusal
listed_after table before [] = Ok before
listed_after table before (name ∷ names) = listed table before name >>= λ c. listed_after table (before ++ c ∷ []) names

-- every column but the system columns is listed
abbrev pub has_all : TableShape → List (ℕ × Kind) → Bool
has_all table columns = list_all (λ c. is_system table c || is_among c (map (λ l. l.0) columns)) (range_with_len 0 (length table.columns))

-- the columns of the list: 12 where one is left out
unfoldable pub list_in : TableShape → List Bytes → Result (List (ℕ × Kind)) Refusal
list_in table names = do
  columns ← listed_after table [] names
  refuse_if (not (has_all table columns)) UnknownColumn
  Ok columns

-- a column of the list, with its value
abbrev pub Given : Type 0
Given = ℕ × RowValue

abbrev pub given_of : GivenRead → Given
given_of g = (g.column, g.value)

unfoldable pub given : (ℕ × Kind) × LiteralForm → Result Given Refusal
given x = literal_in x.0.1 x.1 >>= λ v. Ok (x.0.0, v)

-- each column of the list with the value of the literal at its place: 13 where there is another number of literals
unfoldable pub values_in : List (ℕ × Kind) → List LiteralForm → Result (List Given) Refusal
values_in columns literals = do
  refuse_if (not (length literals == length columns)) WrongType
  each_of given (zip columns literals)

-- the value that a column is given: 12 where it has none
unfoldable pub value_given : List Given → ℕ → Result RowValue Refusal
value_given values column = or_refuse UnknownColumn (option_map (λ g. g.1) (find (λ g. g.0 == column) values))

abbrev pub day_of : RowValue → Result ℕ Refusal
day_of (value.Day d) = Ok d
day_of v = Err WrongType

-- the day that a column is given: 13 where it is given another value
unfoldable pub day_given : List Given → ℕ → Result ℕ Refusal
day_given values column = value_given values column >>= day_of

-- the row, with the values of its columns by their places: 15 where its period has no day
unfoldable pub row_given : ℕ → TableShape → List Given → Result InsertShape Refusal
row_given place table values = do
  start ← day_given values table.start
  end ← day_given values table.end
  refuse_if (not (nat_lt start end)) EmptyPeriod
  key ← each_of (value_given values) table.key
  others ← each_of (value_given values) table.values
  Ok (record { table = place; key = key; values = others; period = record { start = start; end = end } })

-- first the list, then the number of literals and each of them, and last the period
unfoldable pub insert_into : ℕ → TableShape → InsertForm → Result InsertShape Refusal
insert_into place table form = do
  columns ← list_in table form.1.0
  values ← values_in columns form.1.1
  row_given place table values

unfoldable pub insert_in : Tables → InsertForm → Result InsertShape Refusal
insert_in tables form = in_table tables form.0 λ place table. insert_into place table form

-- ---- FOR PORTION OF

-- 12 where the name is not that of the table's period, then 16 and 15 of its days
unfoldable pub portion_in : TableShape → PortionForm → Result Period Refusal
portion_in table form = do
  refuse_if (not (same_name form.0 table.period)) UnknownColumn
  period_named form.1.0 form.1.1

-- one that need not be there
abbrev pub if_given : {A B : Type 0} → (A → Result B Refusal) → Option A → Result (Option B) Refusal
if_given f None = Ok None
if_given f (Some a) = f a >>= λ b. Ok (Some b)

-- those of a list that need not be there
abbrev pub all_given : {A B : Type 0} → (List A → Result (List B) Refusal) → Option (List A) → Result (List B) Refusal
all_given f list = option_map_or f list (Ok [])

-- ---- SET

abbrev pub value_place : Field → Option ℕ
value_place (fields.Key i) = None
value_place (fields.Value i) = Some i

-- where a row keeps a value column: 14 for another column
unfoldable pub assignable : TableShape → ℕ → Result ℕ Refusal
assignable table column = or_refuse NotAssignable (option_and_then value_place (field_at table column))

-- a number of at most 9223372036854775807: 16
unfoldable pub amount : Bytes → Result ℕ Refusal
amount digits = if nat_lt (digits_value 10 digits) 9_223_372_036_854_775_808 then Ok (digits_value 10 digits) else Err OutOfRange

abbrev pub is_integer : Kind → Bool
is_integer Integer = true
is_integer kind = false

abbrev pub changed_by : (Unit {0} ⊎ Unit {0}) → ℕ → NewValue
changed_by (inl plus) n = Plus n
changed_by (inr minus) n = Minus n

-- a column's own name, + or - and digits: 12 and then 14 where the name is another column's, 13 where the column is no INTEGER, 16
unfoldable pub changed_in : TableShape → ℕ × Kind → Bytes → (Unit {0} ⊎ Unit {0}) → Bytes → Result NewValue Refusal
changed_in table column name sign digits = do
  other ← column_named table name
  refuse_if (not (other.0 == column.0)) NotAssignable
  refuse_if (not (is_integer column.1)) WrongType
  n ← amount digits
  Ok (changed_by sign n)

-- what a column is set to
unfoldable pub new_value_in : TableShape → ℕ × Kind → ValueForm → Result NewValue Refusal
new_value_in table column (inr literal) = literal_in column.1 literal >>= λ v. Ok (Literal v)
new_value_in table column (inl (name, (sign, digits))) = changed_in table column name sign digits

-- an assignment behind these: 12, then 14 where the column is no value column or is among these
unfoldable pub assignment_in : TableShape → List Assignment → AssignmentForm → Result Assignment Refusal
assignment_in table before form = do
  column ← column_named table form.0
  place ← assignable table column.0
  refuse_if (is_among place (map (λ a. a.place) before)) NotAssignable
  value ← new_value_in table column form.1
  Ok (record { place = place; value = value })

-- these and, in their order, those of the forms
abbrev pub assignments_after : TableShape → List Assignment → List AssignmentForm → Result (List Assignment) Refusal
assignments_after table before [] = Ok before
assignments_after table before (form ∷ forms) = assignment_in table before form >>= λ a. assignments_after table (before ++ a ∷ []) forms

-- ---- statements

unfoldable pub update_in : Tables → UpdateForm → Result UpdateShape Refusal
update_in tables form = in_table tables form.0 λ place table. do
  portion ← if_given (portion_in table) form.1.0
  assignments ← assignments_after table [] form.1.1.0
  conditions ← all_given (comparisons_in table) form.1.1.1
  Ok (record { table = place; portion = portion; assignments = assignments; conditions = conditions })

unfoldable pub delete_in : Tables → DeleteForm → Result DeleteShape Refusal
delete_in tables form = in_table tables form.0 λ place table. do
  portion ← if_given (portion_in table) form.1.0
  conditions ← all_given (comparisons_in table) form.1.1
  Ok (record { table = place; portion = portion; conditions = conditions })

unfoldable pub statement_in : Tables → StatementForm → Result StatementShape Refusal
statement_in tables (inl insert) = insert_in tables insert >>= λ s. Ok (Insert s)
statement_in tables (inr (inl update)) = update_in tables update >>= λ s. Ok (Update s)
statement_in tables (inr (inr delete)) = delete_in tables delete >>= λ s. Ok (Delete s)

-- 17 for more than 16 of them, then each in the order of the text
unfoldable pub statements_in : Tables → List StatementForm → Result (List StatementShape) Refusal
statements_in tables forms = if nat_lt 16 (length forms) then Err TooLarge else each_of (statement_in tables) forms
