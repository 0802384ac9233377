use Rattle.std.proofs.Common.{◌≡◌, ◌≤◌, ℕ, length}
use Rattle.current.specs.Touched.{removed_of, added_of}
use Rattle.current.specs.Places.{rows_at}
use Rattle.current.proofs.touched.Touched.with_room.Given as goal

abbrev pub invariant-loop : goal.invariant-loop
invariant-loop l = record {
  long : l.counter ≤ length l.tables.items;
  removed : (n : ℕ) → rows_at removed_of l.tables.items n ≡ rows_at removed_of l.fn.self.tables.items n;
  added : (n : ℕ) → rows_at added_of l.tables.items n ≡ rows_at added_of l.fn.self.tables.items n;
}
