-- What statements, queries and a schema mean, in the terms of the definitions: WHERE is a test on a row, SET a function from
-- the old values to the new ones, or to none where one is out of range.
use Rattle.std.specs.Prelude.{ℕ, ℤ, pos, negsuc, ◌+◌, ◌++◌, ◌+ℤ◌, ◌-ℤ◌, Bool, ◌&&◌, ◌==◌, nat_lt, nat_le, if◌then◌else◌, List, [], ◌∷◌, length, map, find, filter_map, slice_get, Option, Some, None, option_map, option_and_then, unwrap_or, int_le, Result}
use Rattle.std.specs.List.{list_all}
use Rattle.std.specs.Option.{option_map_or}
use Rattle.std.specs.Result.{result_map_both}
use Rattle.fault.specs.declared.refusal.Refusal.{Refusal}
use Rattle.model.specs.declared.value.Value.{Value as RowValue}
use Rattle.model.specs.declared.value.Value.TheVariants as value
use Rattle.model.specs.Tables.{Period, Row, days, inside}
use Rattle.model.specs.Transactions.{Action, Statement, Reference, Language}
use Rattle.model.specs.Transactions as action
use Rattle.model.specs.Answers.{Select}
use Rattle.schema.specs.Shape.{TableShape, ReferenceShape}
use Rattle.sqlsyntax.specs.declared.forms.Relation.{Relation}
use Rattle.sqlsyntax.specs.declared.forms.Relation.TheVariants.{Overlaps, Equals, Precedes, Succeeds, ImmediatelyPrecedes, ImmediatelySucceeds}
use Rattle.sqlchecks.specs.Columns.{Tables, field_at, kept_at}
use Rattle.sqlchecks.specs.Comparisons.{compares, passes_all}
use Rattle.sqlread.specs.declared.statement.NewValue.{NewValue}
use Rattle.sqlread.specs.declared.statement.NewValue.TheVariants.{Literal, Plus, Minus}
use Rattle.sqlread.specs.declared.statement.Assignment.{Assignment}
use Rattle.sqlread.specs.Shapes.{StatementShape, Insert, Update, Delete, TermShape, Compares, ContainsDay, Contains, Relates, QueryShape}
use Rattle.sqlread.specs.Texts.{transaction_in}

-- ---- SET

-- a signed number of 64 bits, or none
abbrev pub in_64_bits : ℤ → Option RowValue
in_64_bits n = if int_le (negsuc 9_223_372_036_854_775_807) n && int_le n (pos 9_223_372_036_854_775_807) then Some (value.Number n) else None

abbrev pub moved : (ℤ → ℤ) → RowValue → Option RowValue
moved f (value.Number n) = in_64_bits (f n)
moved f v = None

-- the new value of the old one
unfoldable pub new_value : NewValue → RowValue → Option RowValue
new_value (Literal v) old = Some v
new_value (Plus n) old = moved (λ m. m +ℤ pos n) old
new_value (Minus n) old = moved (λ m. m -ℤ pos n) old

-- what the assignments leave at a place among the values: what they set it to, or what was there
unfoldable pub set_at : List Assignment → ℕ → RowValue → Option RowValue
set_at assignments place old = option_map_or (λ a. new_value a.value old) (find (λ a. a.place == place) assignments) (Some old)

-- all values from this place on, each from the old one at its place
abbrev pub set_from : List Assignment → ℕ → List RowValue → Option (List RowValue)
set_from assignments place [] = Some []
set_from assignments place (v ∷ vs) = option_and_then (λ new. option_map (λ news. new ∷ news) (set_from assignments (place + 1) vs)) (set_at assignments place v)

unfoldable pub set_of : List Assignment → List RowValue → Option (List RowValue)
set_of assignments old = set_from assignments 0 old

-- ---- statements

abbrev pub all_days : Period
all_days = record { start = 0; end = days }

abbrev pub action_of : StatementShape → Action
action_of (Insert s) = action.Insert s.key s.values s.period
action_of (Update s) = action.Update (passes_all s.conditions) (unwrap_or s.portion all_days) (set_of s.assignments)
action_of (Delete s) = action.Delete (passes_all s.conditions) (unwrap_or s.portion all_days)

abbrev pub table_of : StatementShape → ℕ
table_of (Insert s) = s.table
table_of (Update s) = s.table
table_of (Delete s) = s.table

abbrev pub meaning : StatementShape → Statement
meaning s = record { table = table_of s; action = action_of s }

-- ---- queries: X is the row's period, and Y the predicate's

abbrev pub relates : Relation → Period → Period → Bool
relates Overlaps x y = nat_lt x.start y.end && nat_lt y.start x.end
relates Equals x y = x.start == y.start && x.end == y.end
relates Precedes x y = nat_le x.end y.start
relates Succeeds x y = nat_le y.end x.start
relates ImmediatelyPrecedes x y = x.end == y.start
relates ImmediatelySucceeds x y = y.end == x.start

unfoldable pub term_passes : TermShape → Row → Bool
term_passes (Compares c) row = compares c row.key row.values
term_passes (ContainsDay d) row = inside row.period d
term_passes (Contains p) row = nat_le row.period.start p.start && nat_le p.end row.period.end
term_passes (Relates r p) row = relates r row.period p

abbrev pub select_of : QueryShape → Select
select_of q = record { table = q.table; time = q.time; passes = λ row. list_all (λ t. term_passes t row) q.terms }

-- ---- the language

-- the values of the columns at these places, of a row with this key and these values
abbrev pub values_at : TableShape → List ℕ → List RowValue → List RowValue → List RowValue
values_at table columns key values = filter_map (λ c. option_and_then (kept_at key values) (field_at table c)) columns

abbrev pub reference_of : ℕ → TableShape → ReferenceShape → Reference
reference_of place table r = record { child = place; parent = r.parent; refers = values_at table r.columns }

-- the foreign keys of the tables from this place on, in declared order
abbrev pub references_from : ℕ → Tables → List Reference
references_from place [] = []
references_from place (t ∷ ts) = map (reference_of place t.1) t.1.references ++ references_from (place + 1) ts

abbrev pub name_of : Tables → ℕ → List ℕ
name_of tables place = option_map_or (λ t. t.0) (slice_get tables place) []

abbrev pub meanings : Result (List StatementShape) Refusal → Result (List Statement) Refusal
meanings read = result_map_both (map meaning) (λ refusal. refusal) read

unfoldable pub language_of : Tables → Language
language_of tables = record { tables = length tables; name = name_of tables; references = references_from 0 tables; reads = λ text. meanings (transaction_in tables text) }
