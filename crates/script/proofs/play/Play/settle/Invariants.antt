use Rattle.std.proofs.Common.{◌-◌}
use Rattle.script.specs.Plays.{stage_of, tables_of, members_of}
use Rattle.script.specs.Stage.{rounds}
use Rattle.script.proofs.Playing.{SoFar}
use Rattle.script.proofs.play.Play.settle.Given as goal

abbrev pub invariant-loop-played : goal.invariant-loop-played
invariant-loop-played g l =
    let first = l.initial.self in
    SoFar first.world l.self (rounds (tables_of first) (members_of first) l.most (stage_of first)) (rounds (tables_of first) (members_of first) (l.most - l.played) (stage_of l.self))
    (g.P.Printer.printed l.initial.printer) (g.P.Printer.printed l.printer)
