use Rattle.std.proofs.Common.{take, string_bytes}
use Rattle.flight.specs.Spelling.{each_text}
use Rattle.flight.specs.Additions.{Adds}
use Rattle.beginnings.specs.Lines.{part_text}
use Rattle.beginnings.proofs.line.put_parts.Given as goal

abbrev pub invariant-loop-beginning : goal.invariant-loop-beginning
invariant-loop-beginning l = Adds (string_bytes l.initial.text) (string_bytes l.text) (each_text part_text (take l.beginning-index l.seen))
