-- What the text of a schema says: the CREATE TABLE statements that its forms are, and their checks.
use Rattle.std.specs.Prelude.{◌≡◌, ℕ, nat_lt, MatchBool, List, [], ◌∷◌, map, length, Some, None, Result, Ok, Err}
use Rattle.std.specs.Str.Parse.{digits_value}
use mathlib.Core.Logic.{inl, inr}
use Rattle.fault.specs.declared.refusal.Refusal.{Refusal}
use Rattle.fault.specs.declared.refusal.Refusal.TheVariants.{TooLarge}
use Rattle.schema.specs.declared.syntax.ColumnType.{ColumnType}
use Rattle.schema.specs.declared.syntax.ColumnType.TheVariants.{Integer, Varchar, Date, RowStart, RowEnd}
use Rattle.schema.specs.declared.syntax.Column.{Column}
use Rattle.schema.specs.declared.syntax.ApplicationPeriod.{ApplicationPeriod}
use Rattle.schema.specs.declared.syntax.SystemPeriod.{SystemPeriod}
use Rattle.schema.specs.declared.syntax.KeyNames.{KeyNames}
use Rattle.schema.specs.declared.syntax.ForeignKey.{ForeignKey}
use Rattle.schema.specs.declared.syntax.CreateTable.{CreateTable}
use Rattle.schema.specs.Checks.{first_failing}
use Rattle.schema.specs.Rules.{schema_checks}
use Rattle.schema.specs.Tables.{schema_of}
use Rattle.namesyntax.specs.Names.{Bytes}
use Rattle.schemasyntax.specs.Schemas.{TypeForm, ColumnForm, ApplicationForm, SystemForm, KeyNamesForm, ReferenceForm, TableForm, tables}
use Rattle.namesyntax.specs.Parsing.{parsed}
use Rattle.sqlchecks.specs.Columns.{Tables}
use Rattle.sqlchecks.specs.Literals.{unsigned}

-- ---- forms and statements are compared by their names, types and numbers

abbrev pub type_said : TypeForm → ColumnType
type_said (inl integer) = Integer
type_said (inr (inl digits)) = Varchar (unsigned (digits_value 10 digits))
type_said (inr (inr (inl date))) = Date
type_said (inr (inr (inr (inl start)))) = RowStart
type_said (inr (inr (inr (inr end)))) = RowEnd

-- a column's name and type
abbrev pub column_of : Column → Bytes × ColumnType
column_of c = (c.name, c.column_type)

abbrev pub column_said : ColumnForm → Bytes × ColumnType
column_said c = (c.0, type_said c.1)

abbrev pub application_of : ApplicationPeriod → ApplicationForm
application_of p = (p.name, (p.start, p.end))

abbrev pub system_of : SystemPeriod → SystemForm
system_of p = (p.start, p.end)

abbrev pub key_of : KeyNames → KeyNamesForm
key_of k = (k.columns.items, k.period)

abbrev pub reference_of : ForeignKey → ReferenceForm
reference_of r = (key_of r.names, (r.parent, key_of r.parent_names))

-- the statement has the form's names in their places, and its columns' types
pub record IsSaid (form : TableForm) (table : CreateTable) : Type 0 where
  pub name : table.name ≡ form.0
  pub columns : map column_of table.columns.items ≡ map column_said form.1.0
  pub application_period : application_of table.application_period ≡ form.1.1.0
  pub system_period : system_of table.system_period ≡ form.1.1.1.0
  pub key : key_of table.key ≡ form.1.1.1.1.0
  pub foreign_keys : map reference_of table.foreign_keys.items ≡ form.1.1.1.1.1

-- each statement in turn is what the form at its place says
abbrev pub AreSaid : List TableForm → List CreateTable → Type 0
AreSaid [] [] = Unit {0}
AreSaid [] (t ∷ ts) = ⊥
AreSaid (f ∷ fs) [] = ⊥
AreSaid (f ∷ fs) (t ∷ ts) = IsSaid f t × AreSaid fs ts

-- the schema that these statements make, or the refusal of the first check that fails
abbrev pub Makes : List CreateTable → Result Tables Refusal → Type 0
Makes written (Ok made) = (first_failing (schema_checks written) ≡ None) × (made ≡ schema_of written)
Makes written (Err refusal) = first_failing (schema_checks written) ≡ Some refusal

abbrev pub MakesSaid : Result (List TableForm) Refusal → Result Tables Refusal → Type 0
MakesSaid (Ok forms) answer = (written : List CreateTable) × AreSaid forms written × Makes written answer
MakesSaid (Err refusal) answer = answer ≡ Err refusal

-- what the text of a schema says: 17 for more than 65,536 bytes, then 10, then what its statements make
unfoldable pub SchemaSays : List ℕ → Result Tables Refusal → Type 0
SchemaSays text answer = MatchBool (nat_lt 65536 (length text)) (answer ≡ Err TooLarge) (MakesSaid (parsed tables text) answer)
