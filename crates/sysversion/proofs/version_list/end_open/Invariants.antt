use Rattle.std.proofs.Common.{◌≡◌, ◌+◌, ◌≤◌, map, length}
use Rattle.std.specs.BTreeSet.{btree_set_len}
use Rattle.sysversion.specs.Lists.{version_of}
use Rattle.sysversion.specs.Open.{AreIndexed, ended_from, open_from}
use Rattle.sysversion.proofs.version_list.end_open.Given as goal

abbrev pub invariant-loop-place : goal.invariant-loop-place
invariant-loop-place l = record {
  indexed : AreIndexed l.open_places (map version_of l.versions);
  same : map (ended_from l.t l.start) (map version_of l.versions) ≡ map (ended_from l.t l.start) (map version_of l.fn.versions);
  few : l.count + length (open_from l.start (map version_of l.versions)) ≤ l.fn.count + length (open_from l.start (map version_of l.fn.versions));
}

abbrev pub decreases-loop-place : goal.decreases-loop-place
decreases-loop-place l = btree_set_len l.open_places
