use Rattle.script.specs.Plays.{stage_of, tables_of, members_of}
use Rattle.script.specs.Stage.{round}
use Rattle.script.proofs.Rounds.{InRound}
use Rattle.script.proofs.play.Play.play_round.Given as goal

abbrev pub invariant-loop-place : goal.invariant-loop-place
invariant-loop-place g l =
    let first = l.initial.self in
    InRound first.world l.self (round (tables_of first) (members_of first) (stage_of first)) l.count l.place (g.P.Printer.printed l.initial.printer) (g.P.Printer.printed l.printer)
