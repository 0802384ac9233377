use Rattle.std.proofs.Common.{◌≡◌, ◌≤◌, ◌++◌, map, filter, length}
use Rattle.sqlread.specs.Shapes.{time_of}
use Rattle.sysversion.specs.Lists.{version_of, versions_in}
use Rattle.sysversion.specs.Versions.{versions_of_table}
use Rattle.asof.specs.Asking.{is_found_by}
use Rattle.asof.proofs.found.found_of_all.Given as goal

abbrev pub invariant-loop-list : goal.invariant-loop-list
invariant-loop-list l = record {
  found : map (λ v. version_of v.now) l.found.items ++ filter (is_found_by (time_of l.time) l.terms) (versions_in l.list-iterator) ≡ filter (is_found_by (time_of l.time) l.terms) (versions_of_table l.table);
  each : length l.found.items ≤ l.count;
}
