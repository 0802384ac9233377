use Rattle.std.proofs.Common.{refl}
use Rattle.store.proofs.held.HeldLog.summary.Goals as goal

pub returns : goal.returns
returns c = c.summary.ensures (record { hard = c.args.hard; log = c.args.self.now.entries.items }) refl c.args.self.now.linked
