-- Names, literals and comparisons: what they are checked for, and what they mean.
use Rattle.std.specs.Prelude.{ℕ, Bool, nat_lt, nat_le, if◌then◌else◌, List, [], length, position, find, bytes_eq, slice_get, Option, option_map, option_and_then, unwrap_or, ok_or, Result, Ok, Err}
use Rattle.std.specs.List.{list_all, range_with_len}
use Rattle.std.specs.Str.Parse.{digits_value}
use mathlib.Core.Logic.{inl, inr}
use Rattle.fault.specs.declared.refusal.Refusal.{Refusal}
use Rattle.fault.specs.declared.refusal.Refusal.TheVariants.{UnknownTable, UnknownColumn, WrongType, EmptyPeriod, OutOfRange}
use Rattle.model.specs.declared.value.Value.{Value}
use Rattle.model.specs.declared.value.Value.TheVariants as value
use Rattle.model.specs.Tables.{Period, Row}
use Rattle.schema.specs.Name.{same_name}
use Rattle.schema.specs.Shape.{TableShape}
use Rattle.schema.specs.declared.table.Kind.{Kind}
use Rattle.schema.specs.declared.table.Kind.TheVariants.{Integer, Varchar, Date}
use Rattle.namesyntax.specs.Names.{Bytes}
use Rattle.sqlsyntax.specs.Shared.{LiteralForm, ComparisonForm}
use Rattle.sqlchecks.specs.declared.comparison.Comparison.{Comparison}
use Rattle.sqlchecks.specs.Columns.{Tables, field_at}
use Rattle.sqlchecks.specs.Literals.{signed, undoubled}
use Rattle.sqlchecks.specs.Comparisons.{compared_kind, compares}
use Rattle.believed.specs.Days.{day_text}
use Rattle.believed.specs.Results.{◌>>=◌, each}

-- ---- names

-- what has this name, with its place
abbrev pub named_in : {A : Type 0} → List (List ℕ × A) → Bytes → Option (ℕ × A)
named_in items name = option_and_then (λ place. option_map (λ x. (place, x.1)) (slice_get items place)) (position (λ x. same_name name x.0) items)

-- f of the table of this name and its place: 11
abbrev pub in_table : {A : Type 0} → Tables → Bytes → (ℕ → TableShape → Result A Refusal) → Result A Refusal
in_table tables name f = ok_or (named_in tables name) UnknownTable >>= λ t. f t.0 t.1

-- the place and the kind of the column of this name: 12
abbrev pub column_named : TableShape → Bytes → Result (ℕ × Kind) Refusal
column_named table name = ok_or (named_in table.columns name) UnknownColumn

-- ---- literals: 13 where another type is wanted, 16 where there is no such value

-- a day from 0001-01-01, which is 0, to 9999-12-31
abbrev pub day_named : Bytes → Result ℕ Refusal
day_named text = ok_or (find (λ d. bytes_eq (day_text d) text) (range_with_len 0 3_652_059)) OutOfRange

-- the days from one to another: 15 where there is none
abbrev pub period_from : ℕ → ℕ → Result Period Refusal
period_from start end = if nat_lt start end then Ok (record { start = start; end = end }) else Err EmptyPeriod

-- a literal as the value of a column of this kind
abbrev pub literal_in : Kind → LiteralForm → Result Value Refusal
literal_in Date (inl text) = day_named text >>= λ d. Ok (value.Day d)
literal_in (Varchar most) (inr (inl text)) = if nat_le (length (undoubled text)) most then Ok (value.Text (undoubled text)) else Err OutOfRange
literal_in Integer (inr (inr (minus, digits))) = signed minus (digits_value 10 digits) >>= λ n. Ok (value.Number n)
literal_in kind literal = Err WrongType

-- ---- comparisons

-- 12 where the name is no key or value column, then the literal's 13 and 16
abbrev pub comparison_in : TableShape → ComparisonForm → Result Comparison Refusal
comparison_in table (name, (operator, literal)) = do
  column ← column_named table name
  field ← ok_or (field_at table column.0) UnknownColumn
  value ← literal_in (compared_kind column.1) literal
  Ok (record { field = field; operator = operator; value = value })

-- WHERE: a row passes all comparisons, if there are any
abbrev pub condition_in : TableShape → Option (List ComparisonForm) → Result (Row → Bool) Refusal
condition_in table forms = each (comparison_in table) (unwrap_or forms []) >>= λ cs. Ok (λ row. list_all (λ c. compares c row.key row.values) cs)
