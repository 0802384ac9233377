use Rattle.storelaws.proofs.Sessions.{answers}
use Rattle.storelaws.proofs.answers.Goals as goal

pub returns : goal.returns
returns g c = λ found before at text answer clean has. answers g.K.LogReader.may_hold g.K.Keeper.holds g.K.LogReader.is_honest found c.args.store.now before at text answer clean has
