use Rattle.std.proofs.Common.{take, string_bytes}
use Rattle.flight.specs.Spelling.{each_text, step_text}
use Rattle.flight.specs.Additions.{Adds}
use Rattle.flight.proofs.writing.put_steps.Given as goal

abbrev pub invariant-loop-step : goal.invariant-loop-step
invariant-loop-step l = Adds (string_bytes l.initial.text) (string_bytes l.text) (each_text (step_text l.version) (take l.step-index l.steps))
