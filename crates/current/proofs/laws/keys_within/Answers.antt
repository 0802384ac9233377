use Rattle.std.proofs.Common.{ℕ, zero, suc, ◌≤◌, List, [], ◌∷◌, length}
use Rattle.model.specs.Tables.{Row}
use Rattle.rowlaws.specs.Rows.{Has}
use Rattle.current.specs.declared.table.TableRows.{TableRows}
use Rattle.current.specs.Current.{columns_at}
use Rattle.current.specs.Places.{rows_at}
use Rattle.current.specs.Table.{rows_of_table}
use Rattle.current.proofs.laws.keys_within.Goals as goal

within : (xs : List TableRows) (n : ℕ) (r : Row) → Has (rows_at rows_of_table xs n) r → length r.key ≤ columns_at xs n
within [] n r h = absurd h
within (x ∷ xs) zero r h = x.short r h
within (x ∷ xs) (suc n) r h = within xs n r h

pub returns : goal.returns
returns c = λ current n r h. within current.tables.items n r h
