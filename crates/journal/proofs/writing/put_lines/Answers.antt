use Rattle.std.proofs.Common.{◌<◌, length, arith}
use Rattle.flight.proofs.Adding.{adds_one}
use Rattle.journal.specs.Spelling.{line_text}
use Rattle.journal.proofs.writing.put_lines.Goals as goal

pub loop-line-preserved : goal.loop-line-preserved
loop-line-preserved c =
    let within : c.loop-line.line-index < length c.args.lines.now = omega arith in
    adds_one c.args.lines.now c.loop-line.line-index c.line-item.result within c.line-item.is _ _ _ line_text c.loop-line.invariant c.in_ok-put_line.ensures
