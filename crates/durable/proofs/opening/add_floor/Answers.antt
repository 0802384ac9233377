use Rattle.std.proofs.Common.{arith}
use Rattle.sqlite.specs.State.{HasCleanDisk}
use Rattle.sqlite.specs.Held.{state}
use Rattle.durable.proofs.Creating.{floor_added}
use Rattle.durable.proofs.opening.add_floor.Goals as goal

pub returns-clause-ok : goal.returns-clause-ok
returns-clause-ok g c clean =
    let mid : HasCleanDisk (state g.S.Store c.run.new.tx.conn.now) = omega (arith, c.run-2.ensures.survives.clean) in
    floor_added _ _ _ (c.in_ok-run.ensures.ok mid) (c.in_ok-run-2.ensures.ok clean)
