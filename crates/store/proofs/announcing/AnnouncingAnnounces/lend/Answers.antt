use Rattle.std.proofs.Common.{Some, refl}
use Rattle.store.proofs.Continuing.{kept_same}
use Rattle.store.proofs.announcing.AnnouncingAnnounces.lend.Goals as goal

pub returns-clause-carries : goal.returns-clause-carries
returns-clause-carries g c = (kept_same g.J.Device.contents (Some c.args.voice.scribe), λ none honest. refl)
