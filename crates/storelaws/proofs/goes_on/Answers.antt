use Rattle.storelaws.proofs.Sessions.{goes_on, so}
use Rattle.store.specs.Going.{ComesOf}
use Rattle.storelaws.proofs.goes_on.Goals as goal

pub returns-clause-goes : goal.returns-clause-goes
returns-clause-goes g c = λ found before goes clean.
    goes_on g.K.LogReader.may_hold g.K.Keeper.holds g.K.Journal.Device.contents g.K.LogReader.is_honest (λ gave. Unit {0}) found c.args.old.now c.args.new.now before (so g.K.LogReader.may_hold g.K.Keeper.holds g.K.Journal.Device.contents g.K.LogReader.is_honest c.args.old.now c.args.new.now goes) clean

pub returns-clause-tells : goal.returns-clause-tells
returns-clause-tells g c = λ found before client number outcome goes clean.
    goes_on g.K.LogReader.may_hold g.K.Keeper.holds g.K.Journal.Device.contents g.K.LogReader.is_honest (ComesOf client number outcome) found c.args.old.now c.args.new.now before goes clean
