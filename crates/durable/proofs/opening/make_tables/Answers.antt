use Rattle.std.proofs.Common.{arith}
use Rattle.sqlite.specs.State.{HasCleanDisk}
use Rattle.sqlite.specs.Held.{state}
use Rattle.durable.proofs.Creating.{all_made}
use Rattle.durable.proofs.opening.make_tables.Goals as goal

pub returns-clause-ok : goal.returns-clause-ok
returns-clause-ok g c clean =
    let mid : HasCleanDisk (state g.S.Store c.begin_tables.new.tx.conn.now) = omega (arith, c.add_floor.ensures.survives.clean) in
    all_made _ _ _ (c.in_ok-begin_tables.ensures.ok mid) (c.in_ok-add_floor.ensures.ok clean)
