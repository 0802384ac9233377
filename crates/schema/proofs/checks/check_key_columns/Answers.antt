use Rattle.schema.proofs.Each.{left_next, left_failed, left_end, answers_err}
use Rattle.schema.specs.Checks.{each}
use Rattle.schema.specs.Rules.{key_name_checks}
use Rattle.schema.proofs.checks.check_key_columns.Goals as goal

pub loop-i-preserved : goal.loop-i-preserved
loop-i-preserved c = left_next (key_name_checks c.args.table.now) c.args.names.now c.loop-i.i c.index-names-i.result c.loop-i-test.true c.loop-i.invariant c.index-names-i.is c.in_ok-check_key_name.ensures

pub returns-in_err-check_key_name : goal.returns-in_err-check_key_name
returns-in_err-check_key_name c = answers_err c.from_residual.result c.in_err-check_key_name.field-0.0 (each (key_name_checks c.args.table.now) c.args.names.now) c.from_residual.ensures.1 (left_failed (key_name_checks c.args.table.now) c.args.names.now c.loop-i.i c.index-names-i.result c.in_err-check_key_name.field-0.0 c.loop-i-test.true c.loop-i.invariant c.index-names-i.is c.in_err-check_key_name.ensures)

pub returns : goal.returns
returns c = left_end (key_name_checks c.args.table.now) c.args.names.now c.loop-i.i c.loop-i-test.false c.loop-i.invariant
