use Rattle.std.proofs.Common.{◌≡◌, ℕ, [], length}
use Rattle.current.specs.Current.{columns_at}
use Rattle.current.specs.Table.{rows_of_table}
use Rattle.current.specs.Places.{rows_at}
use Rattle.current.proofs.current.Current.new.Given as goal

abbrev pub invariant-loop : goal.invariant-loop
invariant-loop l = record {
  long : length l.tables.items ≡ l.counter;
  columns : (n : ℕ) → columns_at l.tables.items n ≡ 0;
  rows : (n : ℕ) → rows_at rows_of_table l.tables.items n ≡ [];
}
