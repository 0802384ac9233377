use Rattle.std.proofs.Common.{◌≡◌, map, take}
use Rattle.schema.specs.Tables.{entry_of}
use Rattle.schema.proofs.build.columns_of.Given as goal

abbrev pub invariant-loop-column : goal.invariant-loop-column
invariant-loop-column l = l.named.entries ≡ map entry_of (take l.column-index l.columns)
