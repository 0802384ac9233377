use Rattle.storelaws.proofs.Sessions.{files, files_first}
use Rattle.storelaws.proofs.is_filed.Goals as goal

pub returns-clause-begins : goal.returns-clause-begins
returns-clause-begins g c = λ told images found scribe are opened begins clean. files_first g.K.LogReader.may_hold g.K.Keeper.holds g.K.Journal.Device.contents g.K.LogReader.is_honest told images found scribe c.args.members.now c.args.new.now are opened begins clean

pub returns-clause-goes : goal.returns-clause-goes
returns-clause-goes g c = λ found scribe noted before goes clean. files g.K.LogReader.may_hold g.K.Keeper.holds g.K.Journal.Device.contents g.K.LogReader.is_honest found scribe noted c.args.old.now c.args.new.now before goes clean
