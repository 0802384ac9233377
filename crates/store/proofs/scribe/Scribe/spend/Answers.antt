use Rattle.std.proofs.Common.{refl, rules}
use Rattle.store.proofs.Continuing.{continues_failed, continues_same}
use Rattle.store.proofs.scribe.Scribe.spend.Goals as goal

pub returns-then-is_none-clause-continues : goal.returns-then-is_none-clause-continues
returns-then-is_none-clause-continues g c = continues_failed g.J.Device.contents c.args.self.now _ (search rules) refl refl refl

pub returns-else-is_none-clause-continues : goal.returns-else-is_none-clause-continues
returns-else-is_none-clause-continues g c = continues_same g.J.Device.contents c.args.self.now
