use Rattle.std.proofs.Common.{◌≡◌, map}
use Rattle.std.specs.List.{zip}
use Rattle.sqlsyntax.specs.Shared.{literal_form}
use Rattle.sqlread.specs.Changes.{given_of, given, values_in}
use Rattle.sqlread.proofs.Lists.{each_after}
use Rattle.sqlread.proofs.insert.values_in.Given as goal

-- the values so far, and those of the literals that are left, make the whole
abbrev pub invariant-loop-column : goal.invariant-loop-column
invariant-loop-column l = values_in l.columns (map literal_form l.literals) ≡ each_after given (map given_of l.given.items) (zip l.column-iterator.a.rest.now (map literal_form l.column-iterator.b.rest.now))
