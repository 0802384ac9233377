use Rattle.std.proofs.Common.{take, string_bytes}
use Rattle.flight.specs.Spelling.{each_text, entry_text}
use Rattle.flight.specs.Additions.{Adds}
use Rattle.flight.proofs.writing.put_each_entry.Given as goal

abbrev pub invariant-loop-entry : goal.invariant-loop-entry
invariant-loop-entry l = Adds (string_bytes l.initial.text) (string_bytes l.text) (each_text entry_text (take l.entry-index l.entries))
