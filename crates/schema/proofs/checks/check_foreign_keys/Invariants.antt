use Rattle.schema.proofs.Each.{LeftAsAll}
use Rattle.schema.specs.Rules.{foreign_key_checks}
use Rattle.schema.proofs.checks.check_foreign_keys.Given as goal

abbrev pub invariant-loop-i : goal.invariant-loop-i
invariant-loop-i l = LeftAsAll (foreign_key_checks l.earlier l.table) l.keys l.i
