use Rattle.std.proofs.Common.{map}
use Rattle.sqlsyntax.specs.Queries.{term_form}
use Rattle.sqlread.specs.Shapes.{term_of}
use Rattle.sqlread.specs.Questions.{term_in}
use Rattle.sqlread.proofs.Each.{IsMade}
use Rattle.sqlread.proofs.term.read_terms.Given as goal

abbrev pub invariant-loop-term : goal.invariant-loop-term
invariant-loop-term l = IsMade (term_in l.table) term_form l.terms l.term-index (map term_of l.read.items)
