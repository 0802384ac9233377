use Rattle.std.proofs.Common.{◌≡◌, map, take}
use Rattle.schemasyntax.specs.Schemas.{column_form}
use Rattle.schemaread.specs.Schemas.{column_of, column_said}
use Rattle.schemaread.proofs.schemas.columns.Given as goal

abbrev pub invariant-loop-next : goal.invariant-loop-next
invariant-loop-next l = map column_of l.columns.items ≡ map column_said (map column_form (take l.next-index l.forms))
