use Rattle.std.proofs.Common.{◌≡◌, ◌++◌, List, map}
use Rattle.model.specs.declared.value.Value.{Value}
use Rattle.current.specs.Rows.{row_of}
use Rattle.versionlaws.specs.Committing.{opened}
use Rattle.sysversion.specs.Lists.{rows_of}
use Rattle.sysversion.specs.Versions.{list_of}
use Rattle.sysversion.proofs.table.TableVersions.open_all.Given as goal

abbrev pub invariant-loop-row : goal.invariant-loop-row
invariant-loop-row l = (key : List Value) → list_of l.self key ≡ list_of l.fn.self key ++ map opened (rows_of key (map row_of l.yielded))
