-- What the tables of a schema are checked for, in the order of the text, and what they make.
use Rattle.std.specs.Prelude.{◌≡◌, ℕ, ◌<◌, ◌≤◌, Bool, true, false, not, ◌&&◌, ◌||◌, ◌==◌, nat_lt, nat_le, min, List, [], ◌∷◌, ◌++◌, length, map, find, filter, position, unwrap_or, count_by, ok_or, Result, Ok, Err}
use Rattle.std.specs.List.{list_any, list_all, range_with_len, zip}
use Rattle.std.specs.Option.{option_map_or}
use Rattle.std.specs.Str.Parse.{digits_value}
use Rattle.std.specs.Cmp.Lexicographic.{pointwise}
use Rattle.fault.specs.declared.refusal.Refusal.{Refusal}
use Rattle.fault.specs.declared.refusal.Refusal.TheVariants.{Syntax, TooLarge, BadSchema, UnknownTable, UnknownColumn, WrongType}
use Rattle.schema.specs.Name.{same_name}
use Rattle.schema.specs.Shape.{TableShape}
use Rattle.schema.specs.declared.table.Kind.{Kind}
use Rattle.schema.specs.declared.table.Kind.TheVariants as kind
use Rattle.namesyntax.specs.Names.{Bytes}
use Rattle.sqlchecks.specs.Columns.{Tables}
use Rattle.believed.specs.Results.{◌>>=◌, ◌>>◌, refuse_if, each_after}
use Rattle.believed.specs.Spelling.{Spells, IsWrongAt}
use Rattle.believedsql.specs.Forms.{ColumnType, Integer, Varchar, Date, RowStart, RowEnd, KeyNames, ForeignKey, Table, IsSpelling}

-- ---- names and types

-- one type, whatever the lengths of VARCHAR
abbrev pub same_type : ColumnType → ColumnType → Bool
same_type Integer Integer = true
same_type (Varchar n) (Varchar m) = true
same_type Date Date = true
same_type RowStart RowStart = true
same_type RowEnd RowEnd = true
same_type a b = false

-- a column has this name
abbrev pub is_declared : List (Bytes × ColumnType) → Bytes → Bool
is_declared columns name = list_any (λ c. same_name name c.0) columns

-- the first column of this name passes
abbrev pub has_type : List (Bytes × ColumnType) → Bytes → (ColumnType → Bool) → Bool
has_type columns name passes = option_map_or (λ c. passes c.1) (find (λ c. same_name name c.0) columns) false

-- the only column of its type has this name
abbrev pub is_only : List (Bytes × ColumnType) → Bytes → (ColumnType → Bool) → Bool
is_only columns name passes = has_type columns name passes && (count_by (λ c. passes c.1) columns == 1)

-- ---- checks

-- the name is another one than those before it, and a VARCHAR has a length from 1 to 255
abbrev pub check_column : List (Bytes × ColumnType) → Bytes × ColumnType → Result (Bytes × ColumnType) Refusal
check_column before (name, Varchar digits) = let n = digits_value 10 digits in
    refuse_if (is_declared before name || not (nat_le 1 n && nat_le n 255)) BadSchema >> Ok (name, Varchar digits)
check_column before (name, type) = refuse_if (is_declared before name) BadSchema >> Ok (name, type)

-- a name in a key or a foreign key, after those before it there
abbrev pub check_key_name : Table → List Bytes → Bytes → Result Bytes Refusal
check_key_name t before name = refuse_if (not (is_declared t.columns name)) UnknownColumn
    >> (refuse_if (list_any (same_name name) (t.start ∷ t.end ∷ t.system_start ∷ t.system_end ∷ before)) BadSchema >> Ok name)

-- the names in a key or a foreign key, and the table's period
abbrev pub check_names : Table → KeyNames → Result (Unit {0}) Refusal
check_names t names = each_after (check_key_name t) names.columns >>= λ checked. refuse_if (not (same_name names.period t.period)) BadSchema

-- each column of the child has the type of the parent's key column
abbrev pub same_types : Table → List Bytes → Table → Bool
same_types t names parent = list_all (λ p. has_type t.columns p.0 (λ type. has_type parent.columns p.1 (same_type type))) (zip names parent.key.columns)

-- the ninth is too many; its names; the parent stands earlier, the names are those of its key, and as many as the columns, of its types
abbrev pub check_foreign_key : List Table → Table → List ForeignKey → ForeignKey → Result ForeignKey Refusal
check_foreign_key earlier t before k = do
  refuse_if (length before == 8) TooLarge
  check_names t k.names
  parent ← ok_or (find (λ p. same_name k.parent p.name) earlier) UnknownTable
  refuse_if (not (pointwise same_name k.parent_names.columns parent.key.columns && same_name k.parent_names.period parent.period)) BadSchema
  refuse_if (not (length k.names.columns == length parent.key.columns)) BadSchema
  refuse_if (not (same_types t k.names.columns parent)) WrongType
  Ok k

-- Its name and size, its columns, its period and then SYSTEM_TIME with the columns that they go from and to, its key, its foreign keys.
abbrev pub check_table : List Table → Table → Result Table Refusal
check_table earlier t = do
  refuse_if (list_any (λ e. same_name t.name e.name) earlier) BadSchema
  refuse_if (nat_lt 16 (length t.columns)) TooLarge
  columns ← each_after check_column t.columns
  refuse_if (is_declared columns t.period) BadSchema
  refuse_if (not (is_declared columns t.start && is_declared columns t.end)) UnknownColumn
  refuse_if (not (has_type columns t.start (same_type Date) && has_type columns t.end (same_type Date) && not (same_name t.start t.end))) BadSchema
  refuse_if (not (is_declared columns t.system_start && is_declared columns t.system_end)) UnknownColumn
  refuse_if (not (is_only columns t.system_start (same_type RowStart) && is_only columns t.system_end (same_type RowEnd))) BadSchema
  refuse_if (nat_lt 3 (length t.key.columns)) TooLarge
  check_names t t.key
  keys ← each_after (check_foreign_key earlier t) t.foreign_keys
  Ok t

-- ---- what they make

-- where what has this name stands, or how many there are where nothing has
abbrev pub place : {A : Type 0} → List (Bytes × A) → Bytes → ℕ
place items name = unwrap_or (position (λ x. same_name name x.0) items) (length items)

-- a length that the checks keep at 1 to 255
abbrev pub kind_of : ColumnType → Kind
kind_of Integer = kind.Integer
kind_of (Varchar digits) = kind.Varchar (min (digits_value 10 digits) 255)
kind_of Date = kind.Date
kind_of RowStart = kind.SystemStart
kind_of RowEnd = kind.SystemEnd

-- a table, after these tables: columns and tables by their places
abbrev pub shape_of : Tables → Table → TableShape
shape_of earlier t =
    let at = place t.columns in
    let key = map at t.key.columns in
    let periods = at t.start ∷ at t.end ∷ at t.system_start ∷ at t.system_end ∷ [] in
    record {
      columns = map (λ c. (c.0, kind_of c.1)) t.columns;
      period = t.period;
      start = at t.start;
      end = at t.end;
      system_start = at t.system_start;
      system_end = at t.system_end;
      key = key;
      values = filter (λ c. not (list_any (λ p. p == c) (periods ++ key))) (range_with_len 0 (length t.columns));
      references = map (λ k. record { columns = map at k.names.columns; parent = place earlier k.parent }) t.foreign_keys;
    }

-- 17 for more than 16 tables, then the tables in turn
abbrev pub schema_in : List Table → Result Tables Refusal
schema_in ts = refuse_if (nat_lt 16 (length ts)) TooLarge >> each_after check_table ts >>= each_after (λ earlier t. Ok (t.name, shape_of earlier t))

-- more than 65,536 bytes, or a text that spells tables, which the checks take or refuse, or one that goes wrong at a place
pub data IsSchema (text : List ℕ) (r : Result Tables Refusal) : Type 0 where
  TooLong : 65536 < length text → r ≡ Err TooLarge → IsSchema text r
  Spelled : (ts : List Table) → length text ≤ 65536 → Spells text (IsSpelling ts) → r ≡ schema_in ts → IsSchema text r
  Wrong : (at : ℕ) → length text ≤ 65536 → IsWrongAt (λ tokens. (ts : List Table) × IsSpelling ts tokens) text at → r ≡ Err (Syntax at) → IsSchema text r
