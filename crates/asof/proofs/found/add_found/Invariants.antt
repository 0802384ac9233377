use Rattle.std.proofs.Common.{◌≡◌, ◌≤◌, ◌+◌, ◌++◌, map, filter, drop, length}
use Rattle.sqlread.specs.Shapes.{time_of}
use Rattle.sysversion.specs.Lists.{version_of}
use Rattle.asof.specs.Asking.{is_found_by}
use Rattle.asof.proofs.found.add_found.Given as goal

abbrev pub invariant-loop-place : goal.invariant-loop-place
invariant-loop-place l = record {
  found : map (λ v. version_of v.now) l.found.items ++ filter (is_found_by (time_of l.time) l.terms) (map version_of (drop l.place l.list))
      ≡ map (λ v. version_of v.now) l.fn.found.items ++ filter (is_found_by (time_of l.time) l.terms) (map version_of l.list);
  counted : l.count ≤ l.fn.count + l.place;
  each : length l.fn.found.items ≤ l.fn.count → length l.found.items ≤ l.count;
}
