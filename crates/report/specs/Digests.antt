-- Digests of texts.
use Rattle.std.specs.Prelude.{ℕ, List, ◌++◌, length}
use Rattle.std.specs.List.{flat_map}
use Rattle.sha2.specs.Sha256.{sha256}
use Rattle.flight.specs.Contents.{FlightContents}
use Rattle.flight.specs.declared.flight.Answered.{Answered}
use Rattle.report.specs.declared.digests.Digested.{Digested}

-- how many bytes it has, and its SHA-256
abbrev pub digested : List ℕ → Digested
digested text = record { bytes = length text; digest = sha256 text }

-- each question, and then what was answered
abbrev pub said_by : List Answered → List ℕ
said_by answers = flat_map (λ a. a.query ++ a.answer) answers

-- of all flights, in their order
abbrev pub all_said : List FlightContents → List ℕ
all_said flights = flat_map (λ f. said_by f.answers) flights
