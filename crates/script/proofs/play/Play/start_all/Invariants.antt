use Rattle.std.proofs.Common.{◌+◌, ◌-◌, length}
use Rattle.script.specs.Plays.{stage_of, tables_of, members_of}
use Rattle.script.specs.Stage.{starts}
use Rattle.script.proofs.Playing.{SoFar}
use Rattle.script.proofs.play.Play.start_all.Given as goal

abbrev pub invariant-loop-place : goal.invariant-loop-place
invariant-loop-place g l =
    let first = l.initial.self in
    SoFar first.world l.self (starts (tables_of first) (members_of first) (length first.clocks.items) 1 (stage_of first)) (starts (tables_of first) (members_of first) (l.members - l.place) (l.place + 1) (stage_of l.self))
    (g.P.Printer.printed l.initial.printer) (g.P.Printer.printed l.printer)
