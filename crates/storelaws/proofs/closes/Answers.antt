use Rattle.storelaws.proofs.Sessions.{is_left}
use Rattle.storelaws.proofs.closes.Goals as goal

pub returns : goal.returns
returns g c = λ closed. is_left g.K.LogReader.may_hold g.K.Keeper.holds c.args.store.now c.args.databases.now.seats.items closed
