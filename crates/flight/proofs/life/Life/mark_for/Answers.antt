use Rattle.std.proofs.Common.{rules}
use Rattle.flight.proofs.life.Life.mark_for.Goals as goal

pub returns-then-len-ge-LIFE_STEPS : goal.returns-then-len-ge-LIFE_STEPS
returns-then-len-ge-LIFE_STEPS c = search rules

pub returns : goal.returns
returns c = search rules
