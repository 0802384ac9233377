use Rattle.std.proofs.Common.{arith}
use Rattle.current.proofs.Among.{sorted_are}
use Rattle.current.proofs.compare.in_order.Goals as goal

pub returns-clause-rows : goal.returns-clause-rows
returns-clause-rows c = λ row.
    sorted_are c.loop-row.sorted.items c.sort.new.self.items c.args.rows.now c.loop-row.row-index (omega (arith, c.loop-row-test.false)) c.loop-row.invariant c.sort.ensures.permutation row
