-- Whose flight a file is.
use Rattle.std.specs.Prelude.{ℕ, List}
use Rattle.flight.specs.declared.reading.Head.{Head}
use Rattle.flight.specs.Spelling.{head_text}
use Rattle.flight.specs.Ranges.{IsGroup}

abbrev pub heading_text : Head → List ℕ → List ℕ
heading_text h rest = head_text h.node h.members rest

abbrev pub IsHead : Head → Type 0
IsHead h = IsGroup h.node h.members
