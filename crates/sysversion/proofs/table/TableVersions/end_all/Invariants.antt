use Rattle.std.proofs.Common.{◌≡◌, ◌+◌, ◌≤◌, List, map, drop}
use Rattle.model.specs.declared.value.Value.{Value}
use Rattle.current.specs.Rows.{row_of}
use Rattle.versionlaws.specs.Committing.{ended}
use Rattle.sysversion.specs.Lists.{rows_of}
use Rattle.sysversion.specs.Versions.{list_of}
use Rattle.sysversion.proofs.Counting.{list_reads}
use Rattle.sysversion.proofs.table.TableVersions.end_all.Given as goal

abbrev pub invariant-loop-row : goal.invariant-loop-row
invariant-loop-row l = record {
  ended : (key : List Value) → map (ended l.t (rows_of key (map row_of (drop l.row-index l.removed)))) (list_of l.self key) ≡ map (ended l.t (rows_of key (map row_of l.removed))) (list_of l.fn.self key);
  few : l.count + list_reads (map row_of (drop l.row-index l.removed)) (list_of l.self) ≤ l.fn.count + list_reads (map row_of l.removed) (list_of l.fn.self);
}
