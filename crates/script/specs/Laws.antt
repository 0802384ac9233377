-- Laws of scripts.
use Rattle.std.specs.Prelude.{ℕ, ◌+◌, ◌*◌, ◌≤◌, length}
use Rattle.sqlchecks.specs.Columns.{Tables}
use Rattle.script.specs.Stage.{Stage, starts, recovery, events_in}
use Rattle.script.specs.Standing.{longest}

-- a recovery brings few events, by the number of members and the length of the longest log
abbrev pub RecoversSoon : Type 0
RecoversSoon = (tables : Tables) (n : ℕ) (s : Stage) →
    length (events_in (recovery tables n s).acts) ≤ length s.clocks + (2 * longest (length s.clocks) (starts tables n (length s.clocks) 1 s).stage.world + 6) * (2 * length s.clocks + 2)
