use Rattle.sqlite.specs.Held.{state}
use Rattle.durable.specs.Found.{stored_offers}
use Rattle.durable.proofs.keeper.SqlKeeperKeeper.close.Goals as goal

pub returns-clause-good : goal.returns-clause-good
returns-clause-good g c members tables served sound bad =
    let keeper = c.args.self in
    bad _ (stored_offers (state g.S.Store keeper.conn) sound keeper.autocommit (keeper.held sound)) (served sound)
