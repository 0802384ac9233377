use Rattle.schema.proofs.Each.{LeftAsAll}
use Rattle.schema.specs.Rules.{column_checks}
use Rattle.schema.proofs.checks.check_columns.Given as goal

abbrev pub invariant-loop-i : goal.invariant-loop-i
invariant-loop-i l = LeftAsAll column_checks l.columns l.i
