use Rattle.schema.proofs.Each.{LeftAsAll}
use Rattle.schema.specs.Rules.{key_name_checks}
use Rattle.schema.proofs.checks.check_key_columns.Given as goal

abbrev pub invariant-loop-i : goal.invariant-loop-i
invariant-loop-i l = LeftAsAll (key_name_checks l.table) l.names l.i
