use Rattle.std.proofs.Common.{refl, rules}
use Rattle.store.proofs.Continuing.{continues_failed, continues_same, continues_with}
use Rattle.store.proofs.Written.{on_err}
use Rattle.store.proofs.scribe.Scribe.add.Goals as goal

pub returns-in_err-check-clause-lost : goal.returns-in_err-check-clause-lost
returns-in_err-check-clause-lost g c = on_err _ (continues_same g.J.Device.contents c.args.self.now)

pub returns-in-Ok-clause-continues : goal.returns-in-Ok-clause-continues
returns-in-Ok-clause-continues g c = continues_with g.J.Device.contents c.args.self.now _ c.args.line.now c.in_ok-check.ensures.ok (search rules) refl refl c.shown-self.ensures

pub returns-in-Err-clause-lost : goal.returns-in-Err-clause-lost
returns-in-Err-clause-lost g c = continues_failed g.J.Device.contents c.args.self.now _ c.in_ok-check.ensures.ok refl refl refl
