use Rattle.std.proofs.Common.{ℕ, List, take}
use Rattle.std.specs.Io.KnownBytes.{Appends}
use Rattle.shell.specs.Live.{PlaysAll}
use Rattle.shell.specs.Showing.{PlaysIn}
use Rattle.shell.proofs.live_run.play_lines.Given as goal

-- what the lines so far print is written
abbrev pub invariant-loop-line : goal.invariant-loop-line
invariant-loop-line g l = (printed : List ℕ) × PlaysAll (PlaysIn l.fn.manner.look.form g.P.Pilot.plays) l.fn.showing (take l.line-index l.lines) printed l.showing × Appends (g.O.Outlet.holds l.fn.outlet) (g.O.Outlet.holds l.outlet) printed
