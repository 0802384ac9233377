use Rattle.std.proofs.Common.{◌≡◌, map, take}
use Rattle.schemasyntax.specs.Schemas.{reference_form}
use Rattle.schemaread.specs.Schemas.{reference_of}
use Rattle.schemaread.proofs.schemas.foreign_keys.Given as goal

abbrev pub invariant-loop-next : goal.invariant-loop-next
invariant-loop-next l = map reference_of l.keys.items ≡ map reference_form (take l.next-index l.forms)
