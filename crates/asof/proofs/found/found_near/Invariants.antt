use Rattle.std.proofs.Common.{◌≡◌, ◌≤◌, ◌++◌, map, filter, drop, length}
use Rattle.sqlread.specs.Shapes.{time_of}
use Rattle.sysversion.specs.Lists.{version_of}
use Rattle.asof.specs.Asking.{is_found_by}
use Rattle.asof.proofs.found.found_near.Given as goal

abbrev pub invariant-loop-version : goal.invariant-loop-version
invariant-loop-version l = record {
  found : map (λ v. version_of v.now) l.found.items ++ filter (is_found_by (time_of l.time) l.terms) (map (λ v. version_of v.now) (drop l.version-index l.version-items))
      ≡ filter (is_found_by (time_of l.time) l.terms) (map (λ v. version_of v.now) l.version-items);
  each : length l.found.items ≤ l.version-index;
}
