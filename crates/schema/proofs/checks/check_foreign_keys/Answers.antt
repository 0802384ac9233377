use Rattle.schema.proofs.Each.{left_next, left_failed, left_end, answers_err}
use Rattle.schema.specs.Checks.{each}
use Rattle.schema.specs.Rules.{foreign_key_checks}
use Rattle.schema.proofs.checks.check_foreign_keys.Goals as goal

pub loop-i-preserved : goal.loop-i-preserved
loop-i-preserved c = left_next (foreign_key_checks c.args.earlier.now c.args.table.now) c.args.keys.now c.loop-i.i c.index-keys-i.result c.loop-i-test.true c.loop-i.invariant c.index-keys-i.is c.in_ok-check_foreign_key.ensures

pub returns-in_err-check_foreign_key : goal.returns-in_err-check_foreign_key
returns-in_err-check_foreign_key c = answers_err c.from_residual.result c.in_err-check_foreign_key.field-0.0 (each (foreign_key_checks c.args.earlier.now c.args.table.now) c.args.keys.now) c.from_residual.ensures.1 (left_failed (foreign_key_checks c.args.earlier.now c.args.table.now) c.args.keys.now c.loop-i.i c.index-keys-i.result c.in_err-check_foreign_key.field-0.0 c.loop-i-test.true c.loop-i.invariant c.index-keys-i.is c.in_err-check_foreign_key.ensures)

pub returns : goal.returns
returns c = left_end (foreign_key_checks c.args.earlier.now c.args.table.now) c.args.keys.now c.loop-i.i c.loop-i-test.false c.loop-i.invariant
