-- Which values a journal can hold.
use Rattle.std.specs.Prelude.{◌≡◌, ℕ, ◌<◌, List, length, slice_index, ⊤, All}
use Rattle.lines.specs.Number.{IsSigned}
use Rattle.flight.specs.Ranges.{IsNumber, IsClient, IsRequestNumber, IsFloor, IsVote, IsRequest, IsOutcome}
use Rattle.journal.specs.declared.stored.Summary.{Summary}
use Rattle.journal.specs.declared.line.Taken.{Taken}
use Rattle.journal.specs.declared.line.Taken.TheVariants.{Timeout, Beat, Close, Floor, Submit, Message}
use Rattle.journal.specs.declared.line.Line.{Line}
use Rattle.journal.specs.declared.line.Line.TheVariants.{Opens, Rests, Life, Clock, Takes, Saves, Made, Ends, Answer, Printed}

-- 32 bytes
abbrev pub IsDigest : List ℕ → Type 0
IsDigest digest = (length digest ≡ 32) × ((i : ℕ) → slice_index digest i < 256)

abbrev pub IsSummary : Summary → Type 0
IsSummary s = IsNumber s.hard.term × IsVote s.hard.vote × IsFloor s.hard.floor × IsNumber s.length × IsDigest s.digest

abbrev pub IsTaken : Taken → Type 0
IsTaken Timeout = ⊤
IsTaken Beat = ⊤
IsTaken Close = ⊤
IsTaken Floor = ⊤
IsTaken (Submit request) = IsRequest request
IsTaken (Message number) = IsNumber number

abbrev pub IsLine : Line → Type 0
IsLine (Opens journal sum marks) = IsNumber journal × IsNumber sum × IsNumber marks
IsLine (Rests member stored) = IsNumber member × IsSummary stored
IsLine (Life member stored) = IsNumber member × IsSummary stored
IsLine (Clock reading) = IsSigned reading
IsLine (Takes member taken) = IsNumber member × IsTaken taken
IsLine (Saves member stored) = IsNumber member × IsSummary stored
IsLine (Made member outcomes) = IsNumber member × All IsOutcome outcomes
IsLine (Ends member) = IsNumber member
IsLine (Answer member query answer) = IsNumber member
IsLine (Printed client number words) = IsClient client × IsRequestNumber number
