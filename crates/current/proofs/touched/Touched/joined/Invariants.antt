use Rattle.std.proofs.Common.{◌≡◌, ◌<◌, ◌≤◌, ◌++◌, ℕ, length}
use Rattle.current.specs.Touched.{removed_in, added_in}
use Rattle.current.proofs.touched.Touched.joined.Given as goal

abbrev pub invariant-loop-n : goal.invariant-loop-n
invariant-loop-n l = record {
  room : l.count ≤ length l.all.tables.items;
  removed : (m : ℕ) → m < l.n → removed_in l.all m ≡ removed_in l.fn.self m ++ removed_in l.later m;
  added : (m : ℕ) → m < l.n → added_in l.all m ≡ added_in l.fn.self m ++ added_in l.later m;
  removed_left : (m : ℕ) → l.n ≤ m → removed_in l.all m ≡ removed_in l.fn.self m;
  added_left : (m : ℕ) → l.n ≤ m → added_in l.all m ≡ added_in l.fn.self m;
}
