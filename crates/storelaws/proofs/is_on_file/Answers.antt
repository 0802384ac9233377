use Rattle.storelaws.proofs.Sessions.{on_file}
use Rattle.storelaws.proofs.is_on_file.Goals as goal

pub returns : goal.returns
returns g c = λ found scribe noted empty filed. on_file g.K.LogReader.may_hold g.K.Keeper.holds g.K.Journal.Device.contents found scribe noted c.args.store.now empty filed
