use Rattle.std.proofs.Common.{drop}
use Rattle.script.specs.Plays.{stage_of, tables_of, members_of}
use Rattle.script.specs.Stage.{played_all}
use Rattle.script.proofs.Playing.{SoFar}
use Rattle.script.proofs.play.Play.play_lines.Given as goal

abbrev pub invariant-loop-line : goal.invariant-loop-line
invariant-loop-line g l =
    let first = l.initial.self in
    SoFar first.world l.self (played_all (tables_of first) (members_of first) l.lines (stage_of first)) (played_all (tables_of first) (members_of first) (drop l.line-index l.lines) (stage_of l.self))
    (g.P.Printer.printed l.initial.printer) (g.P.Printer.printed l.printer)
