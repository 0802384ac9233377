-- A message that is delivered, with the mark of the step that sent it.
use Rattle.std.specs.Prelude.{ℕ, List}
use Rattle.model.specs.declared.message.Message.{Message}
use Rattle.flight.specs.declared.flight.Version.{Version}
use Rattle.flight.specs.Spelling.{message_text}
use Rattle.flight.specs.Ranges.{IsMark, IsMessage}

abbrev pub delivery_text : Version → ℕ × Message → List ℕ → List ℕ
delivery_text version d rest = message_text version d.0 d.1 rest

abbrev pub IsDelivery : Version → ℕ → ℕ × Message → Type 0
IsDelivery version node d = IsMark d.0 × IsMessage version node d.1
