use Rattle.std.proofs.Common.{◌≡◌, ◌<◌, ◌+◌, ℕ, length}
use Rattle.std.specs.Vec.Iter.{into_iter_items}
use Rattle.rowlaws.specs.Touching.{removed_both, added_both}
use Rattle.current.specs.Touched.{removed_of, added_of, removed_in, added_in}
use Rattle.current.specs.Places.{rows_at}
use Rattle.current.proofs.touched.Touched.then.Given as goal

abbrev pub invariant-loop : goal.invariant-loop
invariant-loop l = record {
  long : length l.tables.items ≡ l.counter;
  removed : (m : ℕ) → m < length l.tables.items → rows_at removed_of l.tables.items m ≡ removed_both (removed_in l.fn.self m) (added_in l.fn.self m) (removed_in l.fn.later m);
  added : (m : ℕ) → m < length l.tables.items → rows_at added_of l.tables.items m ≡ added_both (added_in l.fn.self m) (removed_in l.fn.later m) (added_in l.fn.later m);
  first_removed : (m : ℕ) → rows_at removed_of (into_iter_items l.firsts) m ≡ removed_in l.fn.self (l.counter + m);
  first_added : (m : ℕ) → rows_at added_of (into_iter_items l.firsts) m ≡ added_in l.fn.self (l.counter + m);
  later_removed : (m : ℕ) → rows_at removed_of (into_iter_items l.laters) m ≡ removed_in l.fn.later (l.counter + m);
  later_added : (m : ℕ) → rows_at added_of (into_iter_items l.laters) m ≡ added_in l.fn.later (l.counter + m);
}
