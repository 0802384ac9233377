use Rattle.std.proofs.Common.{rules}
use Rattle.model.proofs.stamp.Stamp.at.Goals as goal

pub returns-then-micros-gt-LAST_MICROS : goal.returns-then-micros-gt-LAST_MICROS
returns-then-micros-gt-LAST_MICROS c = search rules
