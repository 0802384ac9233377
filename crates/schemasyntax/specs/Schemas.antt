-- The grammar of schemas.
use Rattle.std.specs.Prelude.{map, Bool, false, List, [], ◌∷◌, ◌++◌, ◌⊎◌, codes}
use mathlib.Core.Logic.{inl, inr}
use Rattle.sqltokens.specs.declared.token.Keyword.TheVariants as keyword
use Rattle.sqltokens.specs.declared.token.Keyword.TheVariants.{Integer, Varchar, Timestamp, Generated, Always, As, Row, Start, End, Period, For, SystemTime, Primary, Key, Without, Overlaps, Foreign, References, Create, With, System, Versioning}
use Rattle.sqltokens.specs.declared.token.Sign.TheVariants.{Open, Close, Comma, Semicolon}
use Rattle.schemasyntax.specs.declared.forms.ColumnType.{ColumnType}
use Rattle.schemasyntax.specs.declared.forms.ColumnType.TheVariants as types
use Rattle.schemasyntax.specs.declared.forms.Column.{Column}
use Rattle.schemasyntax.specs.declared.forms.ApplicationPeriod.{ApplicationPeriod}
use Rattle.schemasyntax.specs.declared.forms.SystemPeriod.{SystemPeriod}
use Rattle.schemasyntax.specs.declared.forms.KeyNames.{KeyNames}
use Rattle.schemasyntax.specs.declared.forms.ForeignKey.{ForeignKey}
use Rattle.schemasyntax.specs.declared.forms.Table.{Table}
use Rattle.sqltokens.specs.What.{What, Digits, is_word, is_symbol, word, sign}
use Rattle.sqltokens.specs.Classes.{has_shape, digits, is_name}
use Rattle.phrase.specs.Grammar.{Phrase, Fixed, one, only, ◌▹◌, ◌◃◌, ◌▸◌, either, many, made, first_of, row}
use Rattle.namesyntax.specs.Names.{Bytes, names, name_of, names_of, another_name}

-- ---- columns

-- the digits 6 alone
abbrev pub is_six : What → Bool
is_six (Digits d) = has_shape (codes "6") d
is_six w = false

abbrev pub six : Fixed What
six = record { what = Digits (codes "6"); is = is_six }

-- INTEGER, VARCHAR with its digits, DATE, the row's start, the row's end
abbrev pub TypeForm : Type 0
TypeForm = Unit {0} ⊎ (Bytes ⊎ (Unit {0} ⊎ (Unit {0} ⊎ Unit {0})))

unfoldable pub column_type : Phrase What TypeForm
column_type =
    either (is_word Integer) (only (word Integer))
    (either (is_word Varchar) (word Varchar ▹ sign Open ▹ one digits ◃ sign Close)
    (either (is_word keyword.Date) (only (word keyword.Date))
    (word Timestamp ▹ sign Open ▹ six ▹ sign Close ▹ word Generated ▹ word Always ▹ word As ▹ word Row ▹ either (is_word Start) (only (word Start)) (only (word End)))))

abbrev pub ColumnForm : Type 0
ColumnForm = Bytes × TypeForm

unfoldable pub column : Phrase What ColumnForm
column = one names ▸ column_type

unfoldable pub column_comma : Phrase What ColumnForm
column_comma = column ◃ sign Comma

-- column { "," column } "," is spelled as column "," { column "," }
unfoldable pub columns : Phrase What (List ColumnForm)
columns = row column_comma is_name column_comma

-- ---- periods

-- the period's name, its start and its end
abbrev pub ApplicationForm : Type 0
ApplicationForm = Bytes × (Bytes × Bytes)

-- PERIOD FOR name "(" name "," name ")"
unfoldable pub application_period : Phrase What ApplicationForm
application_period = word Period ▹ word For ▹ one names ▸ sign Open ▹ one names ▸ sign Comma ▹ one names ◃ sign Close

-- its start and its end
abbrev pub SystemForm : Type 0
SystemForm = Bytes × Bytes

-- PERIOD FOR SYSTEM_TIME "(" name "," name ")"
unfoldable pub system_period : Phrase What SystemForm
system_period = word Period ▹ word For ▹ word SystemTime ▹ sign Open ▹ one names ▸ sign Comma ▹ one names ◃ sign Close

-- ---- keys

-- the columns, and the period
abbrev pub KeyNamesForm : Type 0
KeyNamesForm = List Bytes × Bytes

abbrev pub before_last : Bytes → List Bytes → List Bytes
before_last a [] = []
before_last a (b ∷ bs) = a ∷ before_last b bs

abbrev pub last_of : Bytes → List Bytes → Bytes
last_of a [] = a
last_of a (b ∷ bs) = last_of b bs

-- of two or more names the last is the period
abbrev pub period_last : Bytes × (Bytes × List Bytes) → KeyNamesForm
period_last (a, (b, cs)) = (a ∷ before_last b cs, last_of b cs)

abbrev pub in_one : KeyNamesForm → Bytes × (Bytes × List Bytes)
in_one ([], period) = (period, (period, []))
in_one (a ∷ more, period) = (a, first_of period (more ++ period ∷ []))

-- name { "," name } "," name is spelled as name "," name { "," name }
unfoldable pub key_columns : Phrase What KeyNamesForm
key_columns = made period_last in_one (one names ▸ sign Comma ▹ one names ▸ many (is_symbol Comma) another_name)

-- PRIMARY KEY "(" names "," name WITHOUT OVERLAPS ")"
unfoldable pub key : Phrase What KeyNamesForm
key = word Primary ▹ word Key ▹ sign Open ▹ key_columns ◃ word Without ◃ word Overlaps ◃ sign Close

unfoldable pub name_comma : Phrase What Bytes
name_comma = one names ◃ sign Comma

-- name { "," name } "," is spelled as name "," { name "," }
unfoldable pub names_comma : Phrase What (List Bytes)
names_comma = row name_comma is_name name_comma

-- "(" names "," PERIOD name ")"
unfoldable pub key_names : Phrase What KeyNamesForm
key_names = sign Open ▹ names_comma ▸ word Period ▹ one names ◃ sign Close

-- its own names, the parent and the parent's names
abbrev pub ReferenceForm : Type 0
ReferenceForm = KeyNamesForm × (Bytes × KeyNamesForm)

-- FOREIGN KEY key_names REFERENCES name key_names
unfoldable pub reference : Phrase What ReferenceForm
reference = word Foreign ▹ word Key ▹ key_names ▸ word References ▹ one names ▸ key_names

unfoldable pub another_reference : Phrase What ReferenceForm
another_reference = sign Comma ▹ reference

-- ---- tables

-- the name, the columns, the two periods, the key and the foreign keys
abbrev pub TableForm : Type 0
TableForm = Bytes × (List ColumnForm × (ApplicationForm × (SystemForm × (KeyNamesForm × List ReferenceForm))))

unfoldable pub table : Phrase What TableForm
table = word Create ▹ word keyword.Table ▹ one names ▸ sign Open ▹ columns ▸ application_period ▸ sign Comma ▹ system_period ▸ sign Comma ▹ key ▸ many (is_symbol Comma) another_reference ◃ sign Close ◃ word With ◃ word System ◃ word Versioning ◃ sign Semicolon

-- table { table }
unfoldable pub tables : Phrase What (List TableForm)
tables = row table (is_word Create) table

-- ---- the parts of what the code reads

abbrev pub type_form : ColumnType → TypeForm
type_form types.Integer = inl tt
type_form (types.Varchar n) = inr (inl n.digits.now)
type_form types.Date = inr (inr (inl tt))
type_form types.RowStart = inr (inr (inr (inl tt)))
type_form types.RowEnd = inr (inr (inr (inr tt)))

abbrev pub column_form : Column → ColumnForm
column_form c = (name_of c.name, type_form c.column_type)

abbrev pub application_form : ApplicationPeriod → ApplicationForm
application_form p = (name_of p.name, (name_of p.start, name_of p.end))

abbrev pub system_form : SystemPeriod → SystemForm
system_form p = (name_of p.start, name_of p.end)

abbrev pub key_names_form : KeyNames → KeyNamesForm
key_names_form k = (names_of k.columns.items, name_of k.period)

abbrev pub reference_form : ForeignKey → ReferenceForm
reference_form r = (key_names_form r.names, (name_of r.parent, key_names_form r.parent_names))

abbrev pub table_form : Table → TableForm
table_form t = (name_of t.name, (map column_form t.columns.items, (application_form t.application_period, (system_form t.system_period, (key_names_form t.key, map reference_form t.foreign_keys.items)))))

abbrev pub schema_form : List Table → List TableForm
schema_form xs = map table_form xs
