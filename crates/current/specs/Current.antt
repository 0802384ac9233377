-- What a contract sees of the current rows of all tables.
use Rattle.std.specs.Prelude.{ℕ, zero, suc, ◌≤◌, Bool, List, [], ◌∷◌, length, ⊤}
use Rattle.sqlchecks.specs.Columns.{Tables}
use Rattle.sqlread.specs.Shapes.{StatementShape, Insert, Update, Delete}
use Rattle.rowlaws.specs.Statements.{Rows}
use Rattle.current.specs.declared.current.Current.{Current}
use Rattle.current.specs.declared.table.TableRows.{TableRows}
use Rattle.current.specs.Places.{rows_at}
use Rattle.current.specs.Table.{rows_of_table}

-- the rows of each table, by its number
abbrev pub rows_of : Current → Rows
rows_of current = rows_at rows_of_table current.tables.items

-- the tables of the schema that they were made of
abbrev pub schema_in : Current → Tables
schema_in current = current.schema

-- how many there are
abbrev pub table_count : Current → ℕ
table_count current = length current.schema

-- an undo found no memory
abbrev pub is_failed : Current → Bool
is_failed current = current.failed

abbrev pub columns_at : List TableRows → ℕ → ℕ
columns_at [] n = 0
columns_at (x ∷ xs) zero = x.columns
columns_at (x ∷ xs) (suc n) = columns_at xs n

-- no key of a row of the n-th table has had more columns
abbrev pub most_columns : Current → ℕ → ℕ
most_columns current = columns_at current.tables.items

-- what the statement inserts has a key of no more columns than this for its table
abbrev pub IsNarrow : (ℕ → ℕ) → StatementShape → Type 0
IsNarrow columns (Insert s) = length s.key ≤ columns s.table
IsNarrow columns (Update s) = ⊤
IsNarrow columns (Delete s) = ⊤

-- no table has had a key of more columns than this
abbrev pub AreNarrow : (ℕ → ℕ) → Current → Type 0
AreNarrow columns current = (n : ℕ) → most_columns current n ≤ columns n
