use Rattle.std.proofs.Common.{arith}
use Rattle.sqlite.specs.State.{HasCleanDisk}
use Rattle.sqlite.specs.Held.{state}
use Rattle.durable.proofs.Creating.{tables_begun}
use Rattle.durable.proofs.opening.begin_tables.Goals as goal

pub returns-clause-ok : goal.returns-clause-ok
returns-clause-ok g c clean =
    let late : HasCleanDisk (state g.S.Store c.run-2.new.tx.conn.now) = omega (arith, c.run-3.ensures.survives.clean) in
    let mid : HasCleanDisk (state g.S.Store c.run.new.tx.conn.now) = omega (arith, c.run-2.ensures.survives.clean) in
    tables_begun _ _ _ _ (c.in_ok-run.ensures.ok mid) (c.in_ok-run-2.ensures.ok late) (c.in_ok-run-3.ensures.ok clean)
