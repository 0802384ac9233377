use Rattle.std.proofs.Common.{◌-◌}
use Rattle.script.specs.Plays.{stage_of, tables_of, members_of}
use Rattle.script.specs.Stage.{turns}
use Rattle.script.proofs.Playing.{SoFar}
use Rattle.script.proofs.play.Play.take_turns.Given as goal

abbrev pub invariant-loop-taken : goal.invariant-loop-taken
invariant-loop-taken g l =
    let first = l.initial.self in
    SoFar first.world l.self (turns (tables_of first) (members_of first) l.most l.node (stage_of first)) (turns (tables_of first) (members_of first) (l.most - l.taken) l.node (stage_of l.self))
    (g.P.Printer.printed l.initial.printer) (g.P.Printer.printed l.printer)
