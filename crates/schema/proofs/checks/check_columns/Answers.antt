use Rattle.schema.proofs.Each.{left_next, left_failed, left_end, answers_err}
use Rattle.schema.specs.Checks.{each}
use Rattle.schema.specs.Rules.{column_checks}
use Rattle.schema.proofs.checks.check_columns.Goals as goal

pub loop-i-preserved : goal.loop-i-preserved
loop-i-preserved c = left_next (column_checks) c.args.columns.now c.loop-i.i c.index-columns-i.result c.loop-i-test.true c.loop-i.invariant c.index-columns-i.is c.in_ok-check_column.ensures

pub returns-in_err-check_column : goal.returns-in_err-check_column
returns-in_err-check_column c = answers_err c.from_residual.result c.in_err-check_column.field-0.0 (each (column_checks) c.args.columns.now) c.from_residual.ensures.1 (left_failed (column_checks) c.args.columns.now c.loop-i.i c.index-columns-i.result c.in_err-check_column.field-0.0 c.loop-i-test.true c.loop-i.invariant c.index-columns-i.is c.in_err-check_column.ensures)

pub returns : goal.returns
returns c = left_end (column_checks) c.args.columns.now c.loop-i.i c.loop-i-test.false c.loop-i.invariant
