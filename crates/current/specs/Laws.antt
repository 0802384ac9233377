-- Laws of current rows, and of what is touched.
use Rattle.std.specs.Prelude.{◌≡◌, ℕ, ◌≤◌, [], length}
use Rattle.model.specs.Tables.{Row}
use Rattle.model.specs.Transactions.{State}
use Rattle.rowlaws.specs.Rows.{Has}
use Rattle.rowlaws.specs.Statements.{AllListed}
use Rattle.current.specs.declared.current.Current.{Current}
use Rattle.current.specs.declared.touched.Touched.{Touched}
use Rattle.current.specs.Current.{rows_of, most_columns}
use Rattle.current.specs.Touched.{removed_in, added_in}

-- the rows of all tables are those of some state
abbrev pub OfSomeState : Type 0
OfSomeState = (current : Current) → (state : State) × AllListed (rows_of current) state

-- nothing is touched of a table past the last that is told of
abbrev pub NothingBeyond : Type 0
NothingBeyond = (touched : Touched) (n : ℕ) → length touched.tables.items ≤ n → (removed_in touched n ≡ []) × (added_in touched n ≡ [])

-- no row's key has more columns than keys of its table have had
abbrev pub KeysWithin : Type 0
KeysWithin = (current : Current) (n : ℕ) (r : Row) → Has (rows_of current n) r → length r.key ≤ most_columns current n
