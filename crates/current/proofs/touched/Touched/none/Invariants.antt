use Rattle.std.proofs.Common.{◌≡◌, ℕ, [], length}
use Rattle.current.specs.Touched.{removed_of, added_of}
use Rattle.current.specs.Places.{rows_at}
use Rattle.current.proofs.touched.Touched.none.Given as goal

abbrev pub invariant-loop : goal.invariant-loop
invariant-loop l = record {
  long : length l.tables.items ≡ l.counter;
  removed : (n : ℕ) → rows_at removed_of l.tables.items n ≡ [];
  added : (n : ℕ) → rows_at added_of l.tables.items n ≡ [];
}
