use Rattle.std.proofs.Common.{ℕ}
use Rattle.sqlread.specs.Shapes.{row, term_of}
use Rattle.sqlread.specs.Meaning.{term_passes}
use Rattle.sqlread.proofs.Each.{PassesSoFar}
use Rattle.sqlread.proofs.term.pass_all_terms.Given as goal

abbrev pub invariant-loop-term : goal.invariant-loop-term
invariant-loop-term l = (system_start : ℕ) → PassesSoFar (λ t. term_passes t (row l.key l.values l.period system_start)) term_of l.terms l.term-index
