use Rattle.std.specs.Prelude.{Some}
use Rattle.store.proofs.Continuing.{unfiled_either, unfiled_same}
use Rattle.store.proofs.Written.{on_err}
use Rattle.store.proofs.voice.Voice.announce.Goals as goal

pub returns-in_err-stored-clause-unfiled : goal.returns-in_err-stored-clause-unfiled
returns-in_err-stored-clause-unfiled g c = on_err _ (unfiled_same g.J.Device.contents (Some c.args.self.now.scribe))

pub returns-clause-unfiled : goal.returns-clause-unfiled
returns-clause-unfiled g c = unfiled_either g.J.Device.contents c.args.self.now.scribe c.tell.new.self _ tt c.in-Err.ensures.lost

pub returns-in-Ok-clause-filed : goal.returns-in-Ok-clause-filed
returns-in-Ok-clause-filed g c = (c.in_ok-stored.stored, c.in-Ok.ensures.continues)
