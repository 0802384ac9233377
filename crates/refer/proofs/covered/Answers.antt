use Rattle.std.proofs.Common.{◌≤◌, map, arith}
use Rattle.std.proofs.lemmas.Grind.{common_steps}
use Rattle.model.specs.Periods.{period_of}
use Rattle.rowlaws.proofs.Least.{uncovered_is}
use Rattle.refer.proofs.covered.Goals as goal

pub loop-parent-init : goal.loop-parent-init
loop-parent-init c =
    let some : c.args.child.start.number ≤ c.args.child.end.number = omega (arith, c.args.child.ordered) in
    uncovered_is (period_of c.args.child) (map period_of c.args.parents.now) some c.requires

pub loop-parent-preserved : goal.loop-parent-preserved
loop-parent-preserved c = grind (arith, common_steps)
