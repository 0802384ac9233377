use Rattle.std.proofs.Common.{take}
use Rattle.world.specs.Run.{tables_in, members_in}
use Rattle.adopt.specs.View.{AreTold}
use Rattle.adopt.proofs.adopting.tell_all.Given as goal

abbrev pub invariant-loop-moment : goal.invariant-loop-moment
invariant-loop-moment l = AreTold (record { version = l.version; tables = tables_in l.initial.telling.replay.world; lives = l.lives; answers = l.answers }) (members_in l.initial.telling.replay.world) l.initial.telling l.telling (take l.moment-index l.moments)
