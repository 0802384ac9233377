use Rattle.std.proofs.Common.{refl}
use Rattle.world.proofs.Giving.{same_given}
use Rattle.world.proofs.history.World.entry.Goals as goal

pub returns-in_err-entry-clause-given : goal.returns-in_err-entry-clause-given
returns-in_err-entry-clause-given c = same_given c.args.self.now _ c.entry.ensures.same.0 c.entry.ensures.same.1 refl

pub returns-clause-given : goal.returns-clause-given
returns-clause-given c = same_given c.args.self.now _ c.entry.ensures.same.0 c.entry.ensures.same.1 refl
