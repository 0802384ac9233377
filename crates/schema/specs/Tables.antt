-- The schema that a list of CREATE TABLE statements makes.
use Rattle.std.specs.Prelude.{ℕ, zero, suc, Bool, not, min, ◌||◌, ◌==◌, List, [], ◌∷◌, ◌++◌, length, map, position, unwrap_or, if◌then◌else◌}
use Rattle.std.specs.List.{list_any}
use Rattle.schema.specs.declared.syntax.ColumnType.{ColumnType}
use Rattle.schema.specs.declared.syntax.ColumnType.TheVariants as written
use Rattle.schema.specs.declared.syntax.Column.{Column}
use Rattle.schema.specs.declared.syntax.ForeignKey.{ForeignKey}
use Rattle.schema.specs.declared.syntax.CreateTable.{CreateTable}
use Rattle.schema.specs.declared.table.Kind.{Kind}
use Rattle.schema.specs.declared.table.Kind.TheVariants.{Integer, Varchar, Date, SystemStart, SystemEnd}
use Rattle.schema.specs.Name.{same_name}
use Rattle.schema.specs.Shape.{TableShape, ReferenceShape}

-- where this name stands among names, or their number where it is none of them
abbrev pub place : List (List ℕ) → List ℕ → ℕ
place names name = unwrap_or (position (same_name name) names) (length names)

-- a length that the checks keep at 1 to 255
abbrev pub kind_of : ColumnType → Kind
kind_of written.Integer = Integer
kind_of (written.Varchar length) = Varchar (min (unwrap_or length 255) 255)
kind_of written.Date = Date
kind_of written.RowStart = SystemStart
kind_of written.RowEnd = SystemEnd

-- the numbers below n that pass, in order
abbrev pub numbers_below : ℕ → (ℕ → Bool) → List ℕ
numbers_below zero passes = []
numbers_below (suc n) passes = numbers_below n passes ++ (if passes n then n ∷ [] else [])

abbrev pub is_one_of : List ℕ → ℕ → Bool
is_one_of places place = list_any (λ p. p == place) places

abbrev pub entry_of : Column → List ℕ × Kind
entry_of column = (column.name, kind_of column.column_type)

abbrev pub names_of : List Column → List (List ℕ)
names_of columns = map (λ c. c.name) columns

abbrev pub table_names : List CreateTable → List (List ℕ)
table_names tables = map (λ t. t.name) tables

-- the columns of the child by their places, in the order in which it names the parent's key
abbrev pub reference_of : List (List ℕ) → List (List ℕ) → ForeignKey → ReferenceShape
reference_of tables columns key = record {
  columns = map (place columns) key.names.columns.items;
  parent = place tables key.parent;
}

-- a table, after the tables of these names
unfoldable pub shape_of : List (List ℕ) → CreateTable → TableShape
shape_of earlier table =
    let names = names_of table.columns.items in
    let start = place names table.application_period.start in
    let end = place names table.application_period.end in
    let system_start = place names table.system_period.start in
    let system_end = place names table.system_period.end in
    let key = map (place names) table.key.columns.items in
    let periods = start ∷ end ∷ system_start ∷ system_end ∷ [] in
    record {
      columns = map entry_of table.columns.items;
      period = table.application_period.name;
      start = start;
      end = end;
      system_start = system_start;
      system_end = system_end;
      key = key;
      values = numbers_below (length table.columns.items) (λ c. not (is_one_of periods c || is_one_of key c));
      references = map (reference_of earlier names) table.foreign_keys.items;
    }

abbrev pub tables_after : List (List ℕ) → List CreateTable → List (List ℕ × TableShape)
tables_after earlier [] = []
tables_after earlier (table ∷ tables) = (table.name, shape_of earlier table) ∷ tables_after (earlier ++ table.name ∷ []) tables

-- the tables in the order of the text, by their names
abbrev pub schema_of : List CreateTable → List (List ℕ × TableShape)
schema_of tables = tables_after [] tables
