use Rattle.schema.proofs.Each.{left_next, left_failed, left_end, answers_err}
use Rattle.schema.specs.Checks.{each}
use Rattle.schema.specs.Rules.{table_checks}
use Rattle.schema.proofs.checks.check_tables.Goals as goal

pub loop-i-preserved : goal.loop-i-preserved
loop-i-preserved c = left_next (table_checks) c.args.tables.now c.loop-i.i c.index-tables-i.result c.loop-i-test.true c.loop-i.invariant c.index-tables-i.is c.in_ok-check_table.ensures

pub returns-in_err-check_table : goal.returns-in_err-check_table
returns-in_err-check_table c = answers_err c.from_residual.result c.in_err-check_table.field-0.0 (each (table_checks) c.args.tables.now) c.from_residual.ensures.1 (left_failed (table_checks) c.args.tables.now c.loop-i.i c.index-tables-i.result c.in_err-check_table.field-0.0 c.loop-i-test.true c.loop-i.invariant c.index-tables-i.is c.in_err-check_table.ensures)

pub returns : goal.returns
returns c = left_end (table_checks) c.args.tables.now c.loop-i.i c.loop-i-test.false c.loop-i.invariant
