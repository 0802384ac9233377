-- Which lines of scripts are played on nodes that run on threads of their own.
use Rattle.std.specs.Prelude.{⊤}
use Rattle.lines.specs.declared.line.Line.{Line}
use Rattle.lines.specs.declared.line.Line.TheVariants.{Clock, ClockAll, Submit, Timeout, Beat, Close, Floor, Deliver, Lose, LoseAll, Settle, Recover, Stop, Start, Torn, Ask}

abbrev pub IsTaken : Line → Type 0
IsTaken (Clock node reading) = ⊤
IsTaken (ClockAll reading) = ⊤
IsTaken (Submit node client number text) = ⊤
IsTaken (Timeout node) = ⊥
IsTaken (Beat node) = ⊥
IsTaken (Close node) = ⊥
IsTaken (Floor node) = ⊥
IsTaken (Deliver message) = ⊥
IsTaken (Lose message) = ⊥
IsTaken LoseAll = ⊥
IsTaken (Settle rounds) = ⊤
IsTaken Recover = ⊥
IsTaken (Stop node) = ⊤
IsTaken (Start node) = ⊤
IsTaken (Torn node left job) = ⊥
IsTaken (Ask node text) = ⊤
