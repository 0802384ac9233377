-- Comparisons of columns with literals: what they are checked for, and which rows pass them.
use Rattle.std.specs.Prelude.{Bool, false, List, Result, Ok}
use Rattle.std.specs.List.{list_all}
use Rattle.std.specs.Option.{option_map_or}
use Rattle.std.specs.Ordering.{is_eq, is_ne, is_lt, is_le, is_gt, is_ge}
use Rattle.std.specs.declared.cmp.Ordering.{Ordering}
use Rattle.fault.specs.declared.refusal.Refusal.{Refusal}
use Rattle.fault.specs.declared.refusal.Refusal.TheVariants.{UnknownColumn}
use Rattle.model.specs.declared.value.Value.{Value as RowValue}
use Rattle.model.specs.Values.{value_cmp}
use Rattle.model.specs.Tables.{Row}
use Rattle.schema.specs.Shape.{TableShape}
use Rattle.schema.specs.declared.table.Kind.{Kind}
use Rattle.schema.specs.declared.table.Kind.TheVariants.{Varchar}
use Rattle.sqlsyntax.specs.declared.forms.Operator.{Operator}
use Rattle.sqlsyntax.specs.declared.forms.Operator.TheVariants.{Equal, NotEqual, Less, LessEqual, Greater, GreaterEqual}
use Rattle.sqlsyntax.specs.Shared.{ComparisonForm}
use Rattle.sqlchecks.specs.declared.comparison.Comparison.{Comparison}
use Rattle.sqlchecks.specs.Answering.{◌>>=◌, or_refuse, each_of}
use Rattle.sqlchecks.specs.Literals.{literal_in}
use Rattle.sqlchecks.specs.Columns.{column_named, field_at, kept_at}

-- a text that a column is compared with may be longer than the column's own: up to 255 bytes
abbrev pub compared_kind : Kind → Kind
compared_kind (Varchar most) = Varchar 255
compared_kind kind = kind

-- 12 where the name is no key or value column, then the literal's 13 and 16
unfoldable pub comparison_in : TableShape → ComparisonForm → Result Comparison Refusal
comparison_in table form = do
  column ← column_named table form.0
  field ← or_refuse UnknownColumn (field_at table column.0)
  value ← literal_in (compared_kind column.1) form.1.1
  Ok (record { field = field; operator = form.1.0; value = value })

unfoldable pub comparisons_in : TableShape → List ComparisonForm → Result (List Comparison) Refusal
comparisons_in table forms = each_of (comparison_in table) forms

-- ---- what they mean

abbrev pub holds : Operator → Ordering → Bool
holds Equal = is_eq
holds NotEqual = is_ne
holds Less = is_lt
holds LessEqual = is_le
holds Greater = is_gt
holds GreaterEqual = is_ge

-- a row with this key and these values has a value there, which lies so to the comparison's
unfoldable pub compares : Comparison → List RowValue → List RowValue → Bool
compares c key values = option_map_or (λ v. holds c.operator (value_cmp v c.value)) (kept_at key values c.field) false

-- a row passes all comparisons
unfoldable pub passes_all : List Comparison → Row → Bool
passes_all comparisons row = list_all (λ c. compares c row.key row.values) comparisons
