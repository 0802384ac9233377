use Rattle.std.proofs.Common.{map, take}
use Rattle.schemasyntax.specs.Schemas.{table_form}
use Rattle.schemaread.specs.Schemas.{AreSaid}
use Rattle.schemaread.proofs.schemas.create_tables.Given as goal

abbrev pub invariant-loop-next : goal.invariant-loop-next
invariant-loop-next l = AreSaid (map table_form (take l.next-index l.forms)) l.tables.items
