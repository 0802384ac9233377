-- What a list of CREATE TABLE statements is checked for, in the order of the text.
use Rattle.std.specs.Prelude.{ℕ, Bool, true, false, not, ◌&&◌, ◌||◌, ◌==◌, nat_lt, nat_le, List, [], ◌∷◌, ◌++◌, length, find, count_by, Option, Some, None, is_some}
use Rattle.std.specs.List.{list_any, list_all, zip}
use Rattle.std.specs.Option.{option_map, option_map_or}
use Rattle.std.specs.Cmp.Lexicographic.{pointwise}
use Rattle.fault.specs.declared.refusal.Refusal.TheVariants.{TooLarge, BadSchema, UnknownTable, UnknownColumn, WrongType}
use Rattle.schema.specs.declared.syntax.ColumnType.{ColumnType}
use Rattle.schema.specs.declared.syntax.ColumnType.TheVariants.{Integer, Varchar, Date, RowStart, RowEnd}
use Rattle.schema.specs.declared.syntax.Column.{Column}
use Rattle.schema.specs.declared.syntax.KeyNames.{KeyNames}
use Rattle.schema.specs.declared.syntax.ForeignKey.{ForeignKey}
use Rattle.schema.specs.declared.syntax.CreateTable.{CreateTable}
use Rattle.schema.specs.Name.{same_name}
use Rattle.schema.specs.Checks.{Check, ◌when◌, each}

abbrev pub has_more_than : {A : Type 0} → ℕ → List A → Bool
has_more_than n xs = nat_lt n (length xs)

abbrev pub is_among : List (List ℕ) → List ℕ → Bool
is_among names name = list_any (same_name name) names

-- one type, whatever the lengths of VARCHAR
abbrev pub same_type : ColumnType → ColumnType → Bool
same_type Integer Integer = true
same_type (Varchar n) (Varchar m) = true
same_type Date Date = true
same_type RowStart RowStart = true
same_type RowEnd RowEnd = true
same_type a b = false

-- the type of the column of this name
abbrev pub type_of : List Column → List ℕ → Option ColumnType
type_of columns name = option_map (λ c. c.column_type) (find (λ c. same_name name c.name) columns)

abbrev pub is_declared : List Column → List ℕ → Bool
is_declared columns name = is_some (type_of columns name)

abbrev pub has_type : List Column → List ℕ → ColumnType → Bool
has_type columns name wanted = option_map_or (λ t. same_type t wanted) (type_of columns name) false

-- ---- columns

-- a VARCHAR whose length is not 1 to 255
abbrev pub has_wrong_length : ColumnType → Bool
has_wrong_length (Varchar (Some n)) = not (nat_le 1 n && nat_le n 255)
has_wrong_length (Varchar None) = true
has_wrong_length Integer = false
has_wrong_length Date = false
has_wrong_length RowStart = false
has_wrong_length RowEnd = false

unfoldable pub column_checks : List Column → Column → List Check
column_checks before column =
    BadSchema when is_declared before column.name
    ∷ BadSchema when has_wrong_length column.column_type
    ∷ []

-- ---- periods

unfoldable pub application_period_checks : CreateTable → List Check
application_period_checks table =
    let columns = table.columns.items in
    let period = table.application_period in
    BadSchema when is_declared columns period.name
    ∷ UnknownColumn when not (is_declared columns period.start)
    ∷ UnknownColumn when not (is_declared columns period.end)
    ∷ BadSchema when not (has_type columns period.start Date && has_type columns period.end Date && not (same_name period.start period.end))
    ∷ []

-- the only column of its type has this name
abbrev pub is_only : List Column → List ℕ → ColumnType → Bool
is_only columns name wanted = has_type columns name wanted && (count_by (λ c. same_type c.column_type wanted) columns == 1)

unfoldable pub system_period_checks : CreateTable → List Check
system_period_checks table =
    let columns = table.columns.items in
    let period = table.system_period in
    UnknownColumn when not (is_declared columns period.start)
    ∷ UnknownColumn when not (is_declared columns period.end)
    ∷ BadSchema when not (is_only columns period.start RowStart && is_only columns period.end RowEnd)
    ∷ []

-- ---- keys

abbrev pub is_period_or_system_column : CreateTable → List ℕ → Bool
is_period_or_system_column table name =
    same_name name table.application_period.start || same_name name table.application_period.end
    || same_name name table.system_period.start || same_name name table.system_period.end

-- a name in a key or a foreign key, after those before it there
unfoldable pub key_name_checks : CreateTable → List (List ℕ) → List ℕ → List Check
key_name_checks table before name =
    UnknownColumn when not (is_declared table.columns.items name)
    ∷ BadSchema when (is_period_or_system_column table name || is_among before name)
    ∷ []

-- the names in a key or a foreign key, and the table's period
unfoldable pub key_names_checks : CreateTable → KeyNames → List Check
key_names_checks table names =
    each (key_name_checks table) names.columns.items
    ++ BadSchema when not (same_name names.period table.application_period.name) ∷ []

unfoldable pub key_checks : CreateTable → List Check
key_checks table =
    TooLarge when has_more_than 3 table.key.columns.items
    ∷ key_names_checks table table.key

-- ---- foreign keys

abbrev pub table_named : List CreateTable → List ℕ → Option CreateTable
table_named tables name = find (λ t. same_name name t.name) tables

-- the names are those of the table's key, and as many as the columns
abbrev pub names_key : KeyNames → List (List ℕ) → CreateTable → Bool
names_key names columns parent =
    pointwise same_name names.columns.items parent.key.columns.items
    && same_name names.period parent.application_period.name
    && (length columns == length parent.key.columns.items)

abbrev pub same_optional_type : Option ColumnType → Option ColumnType → Bool
same_optional_type (Some a) (Some b) = same_type a b
same_optional_type (Some a) None = false
same_optional_type None b = false

-- each column of the child has the type of the parent's key column
abbrev pub same_types : List Column → List (List ℕ) → CreateTable → Bool
same_types columns names parent =
    list_all (λ p. same_optional_type (type_of columns p.0) (type_of parent.columns.items p.1)) (zip names parent.key.columns.items)

unfoldable pub parent_checks : CreateTable → ForeignKey → Option CreateTable → List Check
parent_checks table key None = UnknownTable when true ∷ []
parent_checks table key (Some parent) =
    BadSchema when not (names_key key.parent_names key.names.columns.items parent)
    ∷ WrongType when not (same_types table.columns.items key.names.columns.items parent)
    ∷ []

abbrev pub reference_checks : List CreateTable → CreateTable → ForeignKey → List Check
reference_checks earlier table key =
    key_names_checks table key.names
    ++ parent_checks table key (table_named earlier key.parent)

-- the ninth is too many
unfoldable pub foreign_key_checks : List CreateTable → CreateTable → List ForeignKey → ForeignKey → List Check
foreign_key_checks earlier table before key =
    TooLarge when (length before == 8)
    ∷ reference_checks earlier table key

-- ---- tables

unfoldable pub name_and_size_checks : List CreateTable → CreateTable → List Check
name_and_size_checks earlier table =
    BadSchema when is_some (table_named earlier table.name)
    ∷ TooLarge when has_more_than 16 table.columns.items
    ∷ []

abbrev pub table_checks : List CreateTable → CreateTable → List Check
table_checks earlier table =
    name_and_size_checks earlier table
    ++ each column_checks table.columns.items
    ++ application_period_checks table
    ++ system_period_checks table
    ++ key_checks table
    ++ each (foreign_key_checks earlier table) table.foreign_keys.items

abbrev pub schema_checks : List CreateTable → List Check
schema_checks tables =
    TooLarge when has_more_than 16 tables
    ∷ each table_checks tables
