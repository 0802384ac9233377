use Rattle.std.proofs.Common.{ap}
use Rattle.script.proofs.Playing.{refused_plays}
use Rattle.script.proofs.play.Play.ask.Goals as goal

pub returns-in-Err-clause-plays : goal.returns-in-Err-clause-plays
returns-in-Err-clause-plays g c =
    refused_plays c.args.self.now c.args.node c.in-Err.refusal _ c.print_refusal.result _ _ c.requires.live (rw (c.as_str.ensures, c.schema.ensures) at c.in-Err.ensures)
    (λ is. let done = c.print_refusal.ensures.memory is in (done.0, ap g.P.Printer.printed done.1)) c.print_refusal.ensures.text c.print_refusal.ensures.err
