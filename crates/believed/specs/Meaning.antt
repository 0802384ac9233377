-- What the text of a transaction means: its statements, as they are checked over the tables in the order of the text. WHERE is a
-- test on a row, SET a function from the old values to the new ones, or to none where one is out of range.
use Rattle.std.specs.Prelude.{◌≡◌, ◌↔◌, ◌⊎◌, ℕ, ◌+ℤ◌, ◌-ℤ◌, ◌<◌, ◌≤◌, not, ◌||◌, ◌==◌, nat_lt, List, [], length, map, slice_get, find, zip, filter_map, flat_map, Option, Some, None, option_map, option_and_then, ok_or, Result, Ok, Err}
use Rattle.std.specs.List.{list_all, range_with_len, enumerate_from}
use Rattle.std.specs.Option.{option_map_or}
use Rattle.std.specs.Result.{result_ok}
use mathlib.Core.Logic.{inl, inr}
use Rattle.fault.specs.declared.refusal.Refusal.{Refusal}
use Rattle.fault.specs.declared.refusal.Refusal.TheVariants.{Syntax, UnknownColumn, WrongType, NotAssignable, TooLarge, NumberRange}
use Rattle.model.specs.declared.value.Value.{Value}
use Rattle.model.specs.declared.value.Value.TheVariants as value
use Rattle.model.specs.Tables.{Period, days}
use Rattle.model.specs.Transactions.{Action, Statement, Reference, Language}
use Rattle.model.specs.Transactions as action
use Rattle.schema.specs.Name.{same_name}
use Rattle.schema.specs.Shape.{TableShape}
use Rattle.schema.specs.declared.table.Kind.{Kind}
use Rattle.namesyntax.specs.Names.{Bytes}
use Rattle.sqlsyntax.specs.Shared.{LiteralForm}
use Rattle.sqlsyntax.specs.Transactions.{PortionForm, ValueForm, AssignmentForm, StatementForm}
use Rattle.sqlchecks.specs.declared.field.Field.{Field}
use Rattle.sqlchecks.specs.declared.field.Field.TheVariants as fields
use Rattle.sqlchecks.specs.Columns.{Tables, field_at, kept_at}
use Rattle.sqlread.specs.Changes.{is_among, is_system}
use Rattle.sqlread.specs.Meaning.{in_64_bits}
use Rattle.believed.specs.Results.{◌>>=◌, ◌>>◌, refuse_if, each, each_after}
use Rattle.believed.specs.Spelling.{IsSpelling, Spells, IsWrongAt}
use Rattle.believed.specs.Checks.{in_table, column_named, literal_in, period_from, day_named, condition_in}

-- ---- INSERT

-- a column of the list, which stands behind these columns: 12, then 14 for a system column and for one of these
abbrev pub listed : TableShape → List (ℕ × Kind) → Bytes → Result (ℕ × Kind) Refusal
listed table before name = do
  column ← column_named table name
  refuse_if (is_system table column.0 || is_among column.0 (map (λ c. c.0) before)) NotAssignable
  Ok column

-- the value that a column is given
abbrev pub given : List (ℕ × Value) → ℕ → Result Value Refusal
given values column = ok_or (option_map (λ g. g.1) (find (λ g. g.0 == column) values)) UnknownColumn

abbrev pub day_of : Value → Result ℕ Refusal
day_of (value.Day d) = Ok d
day_of v = Err WrongType

-- The list, 12 where a column but the system columns is left out; 13 for another number of literals, and each of them; 15 where the
-- period has no day.
abbrev pub insert_in : TableShape → List Bytes → List LiteralForm → Result Action Refusal
insert_in table names literals = do
  columns ← each_after (listed table) names
  refuse_if (not (list_all (λ c. is_system table c || is_among c (map (λ l. l.0) columns)) (range_with_len 0 (length table.columns)))) UnknownColumn
  refuse_if (not (length literals == length columns)) WrongType
  values ← each (λ x. literal_in x.0.1 x.1 >>= λ v. Ok (x.0.0, v)) (zip columns literals)
  start ← given values table.start >>= day_of
  end ← given values table.end >>= day_of
  period ← period_from start end
  key ← each (given values) table.key
  others ← each (given values) table.values
  Ok (action.Insert key others period)

-- ---- FOR PORTION OF

-- all days where it is left out; 12 where the name is not that of the table's period, then 16 and 15 of its days
abbrev pub portion_in : TableShape → Option PortionForm → Result Period Refusal
portion_in table None = Ok (record { start = 0; end = days })
portion_in table (Some (name, (from, to))) = do
  refuse_if (not (same_name name table.period)) UnknownColumn
  start ← day_named from
  end ← day_named to
  period_from start end

-- ---- SET

-- where a row keeps a value column: 14 for another column
abbrev pub value_place : Option Field → Result ℕ Refusal
value_place (Some (fields.Value i)) = Ok i
value_place field = Err NotAssignable

-- the old number and another one, or none where that leaves 64 bits
abbrev pub changed_by : (Unit {0} ⊎ Unit {0}) → Value → Value → Option Value
changed_by (inl plus) (value.Number n) (value.Number old) = in_64_bits (old +ℤ n)
changed_by (inr minus) (value.Number n) (value.Number old) = in_64_bits (old -ℤ n)
changed_by sign by old = None

-- What a column is set to, by its old value. A column's own name, + or - and digits: 12 and then 14 where the name is another
-- column's, 13 where the column is no INTEGER, 16.
abbrev pub new_value_in : TableShape → ℕ × Kind → ValueForm → Result (Value → Option Value) Refusal
new_value_in table column (inr literal) = literal_in column.1 literal >>= λ v. Ok (λ old. Some v)
new_value_in table column (inl (name, (sign, digits))) = do
  other ← column_named table name
  refuse_if (not (other.0 == column.0)) NotAssignable
  by ← literal_in column.1 (inr (inr (None, digits)))
  Ok (changed_by sign by)

-- the place of a column that is set, behind these, and what it is set to: 12, then 14 where it is no value column or is among these
abbrev pub assignment_in : TableShape → List (ℕ × (Value → Option Value)) → AssignmentForm → Result (ℕ × (Value → Option Value)) Refusal
assignment_in table before (name, new) = do
  column ← column_named table name
  place ← value_place (field_at table column.0)
  refuse_if (is_among place (map (λ a. a.0) before)) NotAssignable
  f ← new_value_in table column new
  Ok (place, f)

-- the new values, each by the old one at its place: none where one of them is out of range
abbrev pub set_of : List (ℕ × (Value → Option Value)) → List Value → Option (List Value)
set_of assignments old =
    let new = λ (v : ℕ × Value). option_map_or (λ a. a.1 v.1) (find (λ a. a.0 == v.0) assignments) (Some v.1) in
    result_ok (each (λ v. ok_or (new v) NumberRange) (enumerate_from 0 old))

-- ---- statements

abbrev pub statement_in : Tables → StatementForm → Result Statement Refusal
statement_in tables (inl (name, (columns, literals))) = in_table tables name λ place table.
    insert_in table columns literals >>= λ insert. Ok (record { table = place; action = insert })
statement_in tables (inr (inl (name, (portion, (assignments, conditions))))) = in_table tables name λ place table. do
  days ← portion_in table portion
  set ← each_after (assignment_in table) assignments
  passes ← condition_in table conditions
  Ok (record { table = place; action = action.Update passes days (set_of set) })
statement_in tables (inr (inr (name, (portion, conditions)))) = in_table tables name λ place table. do
  days ← portion_in table portion
  passes ← condition_in table conditions
  Ok (record { table = place; action = action.Delete passes days })

-- 17 for more than 16 of them, then each in the order of the text
abbrev pub statements_in : Tables → List StatementForm → Result (List Statement) Refusal
statements_in tables forms = refuse_if (nat_lt 16 (length forms)) TooLarge >> each (statement_in tables) forms

-- more than 4096 bytes, or a text that spells forms, which the checks take for statements or refuse, or one that goes wrong at a place
pub data IsReading (tables : Tables) (text : List ℕ) (r : Result (List Statement) Refusal) : Type 0 where
  TooLong : 4096 < length text → r ≡ Err TooLarge → IsReading tables text r
  Spelled : (forms : List StatementForm) → length text ≤ 4096 → Spells text (IsSpelling forms) → r ≡ statements_in tables forms → IsReading tables text r
  Wrong : (at : ℕ) → length text ≤ 4096 → IsWrongAt (λ tokens. (forms : _) × IsSpelling forms tokens) text at → r ≡ Err (Syntax at) → IsReading tables text r

-- ---- the schema

-- the foreign keys of all tables, in declared order: a row refers by the values of its columns
abbrev pub references_in : Tables → List Reference
references_in tables =
    let refers = λ (t : TableShape) (columns : List ℕ) (key rest : List Value). filter_map (λ c. option_and_then (kept_at key rest) (field_at t c)) columns in
    flat_map (λ t. map (λ r. record { child = t.0; parent = r.parent; refers = refers t.1.1 r.columns }) t.1.1.references) (enumerate_from 0 tables)

-- the schema of these tables
pub record IsLanguage (tables : Tables) (language : Language) : Type 0 where
  pub count : language.tables ≡ length tables
  pub name : (n : ℕ) → language.name n ≡ option_map_or (λ t. t.0) (slice_get tables n) []
  pub references : language.references ≡ references_in tables
  pub reads : (text : List ℕ) (r : Result (List Statement) Refusal) → IsReading tables text r ↔ (language.reads text ≡ r)
