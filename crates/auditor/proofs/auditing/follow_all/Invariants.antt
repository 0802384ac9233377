use Rattle.std.proofs.Common.{take, List}
use Rattle.model.specs.Worlds.{Event}
use Rattle.world.specs.Run.{tables_in, members_in}
use Rattle.auditor.specs.View.{IsLed}
use Rattle.auditor.proofs.auditing.follow_all.Given as goal

abbrev pub invariant-loop-moment : goal.invariant-loop-moment
invariant-loop-moment l = (events : List Event) × IsLed (record { version = l.version; tables = tables_in l.initial.replay.world; lives = l.lives; answers = l.answers }) (members_in l.initial.replay.world) l.initial.replay l.replay (take l.moment-index l.moments) events
