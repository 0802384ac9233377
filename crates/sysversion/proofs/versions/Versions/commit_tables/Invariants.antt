use Rattle.std.proofs.Common.{◌≡◌, ℕ, ◌+◌, ◌<◌, ◌≤◌, drop}
use Rattle.std.specs.Vec.Iter.{into_iter_items}
use Rattle.current.specs.Touched.{removed_in, added_in}
use Rattle.versionlaws.specs.ByKey.{SameByKey}
use Rattle.versionlaws.specs.Committing.{committed}
use Rattle.sysversion.specs.Reads.{reads_in_tables}
use Rattle.sysversion.specs.Versions.{versions_of, schema_in, table_count}
use Rattle.sysversion.proofs.versions.Versions.commit_tables.Given as goal

abbrev pub invariant-loop-table : goal.invariant-loop-table
invariant-loop-table l = record {
  schema : schema_in l.self ≡ schema_in l.fn.self;
  rest : into_iter_items l.table-iterator.iter ≡ drop l.table-iterator.count l.fn.touched.tables.items;
  done : (n : ℕ) → n < l.table-iterator.count → n < table_count l.fn.self → SameByKey (versions_of l.self n) (committed l.t (removed_in l.fn.touched n) (added_in l.fn.touched n) (versions_of l.fn.self n));
  few : l.count ≤ l.fn.count + reads_in_tables l.table-iterator.count (removed_in l.fn.touched) (versions_of l.fn.self);
  left : (n : ℕ) → l.table-iterator.count ≤ n → versions_of l.self n ≡ versions_of l.fn.self n;
}
