use Rattle.std.proofs.Common.{◌≡◌, take}
use Rattle.namesyntax.specs.Names.{names_of}
use Rattle.schemaread.proofs.schemas.names.Given as goal

abbrev pub invariant-loop-next : goal.invariant-loop-next
invariant-loop-next l = l.names.items ≡ names_of (take l.next-index l.forms)
