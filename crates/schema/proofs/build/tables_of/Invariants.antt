use Rattle.std.proofs.Common.{◌≡◌, take}
use Rattle.schema.specs.Tables.{schema_of}
use Rattle.schema.proofs.build.tables_of.Given as goal

abbrev pub invariant-loop-table : goal.invariant-loop-table
invariant-loop-table l = l.named.entries ≡ schema_of (take l.table-index l.tables)
