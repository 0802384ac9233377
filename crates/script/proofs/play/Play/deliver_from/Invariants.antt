use Rattle.std.proofs.Common.{◌-◌, suc}
use Rattle.script.specs.Plays.{stage_of, tables_of, members_of}
use Rattle.script.specs.Stage.{deliveries_from}
use Rattle.script.proofs.Playing.{SoFar}
use Rattle.script.proofs.play.Play.deliver_from.Given as goal

abbrev pub invariant-loop-delivered : goal.invariant-loop-delivered
invariant-loop-delivered g l =
    let first = l.initial.self in
    SoFar first.world l.self (deliveries_from (tables_of first) (members_of first) l.most (suc l.first) (stage_of first)) (deliveries_from (tables_of first) (members_of first) (l.most - l.delivered) (suc l.place) (stage_of l.self))
    (g.P.Printer.printed l.initial.printer) (g.P.Printer.printed l.printer)
