use Rattle.schema.proofs.Each.{LeftAsAll}
use Rattle.schema.specs.Rules.{table_checks}
use Rattle.schema.proofs.checks.check_tables.Given as goal

abbrev pub invariant-loop-i : goal.invariant-loop-i
invariant-loop-i l = LeftAsAll table_checks l.tables l.i
