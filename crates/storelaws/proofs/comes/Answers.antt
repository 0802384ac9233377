use Rattle.storelaws.proofs.Sessions.{came}
use Rattle.storelaws.proofs.comes.Goals as goal

pub returns : goal.returns
returns g c = λ images found are runs clean. came g.K.LogReader.may_hold g.K.Keeper.holds found c.args.store.now (runs clean found are)
