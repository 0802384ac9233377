use Rattle.std.proofs.Common.{take, string_bytes}
use Rattle.flight.specs.Spelling.{each_text, outcome_text}
use Rattle.flight.specs.Additions.{Adds}
use Rattle.journal.proofs.pieces.put_each_outcome.Given as goal

abbrev pub invariant-loop-outcome : goal.invariant-loop-outcome
invariant-loop-outcome l = Adds (string_bytes l.initial.text) (string_bytes l.text) (each_text outcome_text (take l.outcome-index l.outcomes))
