use Rattle.std.proofs.Common.{take, string_bytes}
use Rattle.flight.specs.Spelling.{each_text}
use Rattle.flight.specs.Additions.{Adds}
use Rattle.journal.specs.Spelling.{line_text}
use Rattle.journal.proofs.writing.put_lines.Given as goal

abbrev pub invariant-loop-line : goal.invariant-loop-line
invariant-loop-line l = Adds (string_bytes l.initial.text) (string_bytes l.text) (each_text line_text (take l.line-index l.lines))
