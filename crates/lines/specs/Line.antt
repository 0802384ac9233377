-- The texts of lines, each of which has one spelling.
use Rattle.std.specs.Prelude.{◌≢◌, ℕ, ◌≤◌, ◌<◌, ◌^◌, Some, None, List, ◌∷◌, ◌++◌, codes, decimal, ⊤}
use Rattle.std.specs.Fmt.{signed_decimal}
use Rattle.lines.specs.Number.{IsSigned}
use Rattle.model.specs.declared.event.Left.{Left}
use Rattle.model.specs.declared.event.Left.TheVariants.{Old, New}
use Rattle.lines.specs.declared.line.TornJob.{TornJob}
use Rattle.lines.specs.declared.line.TornJob.TheVariants as jobs
use Rattle.lines.specs.declared.line.Line.{Line}
use Rattle.lines.specs.declared.line.Line.TheVariants.{Clock, ClockAll, Submit, Timeout, Beat, Close, Floor, Deliver, Lose, LoseAll, Settle, Recover, Stop, Start, Torn, Ask}

abbrev pub left_text : Left → List ℕ
left_text Old = codes "old"
left_text New = codes "new"

-- the client, the number and the text of a request
abbrev pub request_text : ℕ → ℕ → List ℕ → List ℕ
request_text client number text = decimal client ++ 32 ∷ (decimal number ++ 32 ∷ text)

abbrev pub job_text : TornJob → List ℕ
job_text jobs.Timeout = codes "timeout"
job_text jobs.Beat = codes "beat"
job_text jobs.Close = codes "close"
job_text jobs.Floor = codes "floor"
job_text (jobs.Submit client number text) = codes "submit " ++ request_text client number text
job_text (jobs.Deliver message) = codes "deliver " ++ decimal message

abbrev pub line_text : Line → List ℕ
line_text (Clock node reading) = codes "clock " ++ (decimal node ++ 32 ∷ signed_decimal reading)
line_text (ClockAll reading) = codes "clock all " ++ signed_decimal reading
line_text (Submit node client number text) = codes "submit " ++ (decimal node ++ 32 ∷ request_text client number text)
line_text (Timeout node) = codes "timeout " ++ decimal node
line_text (Beat node) = codes "beat " ++ decimal node
line_text (Close node) = codes "close " ++ decimal node
line_text (Floor node) = codes "floor " ++ decimal node
line_text (Deliver message) = codes "deliver " ++ decimal message
line_text (Lose message) = codes "lose " ++ decimal message
line_text LoseAll = codes "lose all"
line_text (Settle None) = codes "settle"
line_text (Settle (Some rounds)) = codes "settle " ++ decimal rounds
line_text Recover = codes "recover"
line_text (Stop node) = codes "stop " ++ decimal node
line_text (Start node) = codes "start " ++ decimal node
line_text (Torn node left job) = codes "torn " ++ (decimal node ++ 32 ∷ (left_text left ++ 32 ∷ job_text job))
line_text (Ask node text) = codes "ask " ++ (decimal node ++ 32 ∷ text)

-- one of so many nodes
abbrev pub IsNode : ℕ → ℕ → Type 0
IsNode members node = (1 ≤ node) × (node ≤ members)

-- a client and the number of its request
abbrev pub IsRequest : ℕ → ℕ → Type 0
IsRequest client number = (1 ≤ client) × (client < 2 ^ 16) × (1 ≤ number) × (number ≤ 2 ^ 62)

abbrev pub IsJobInRange : TornJob → Type 0
IsJobInRange jobs.Timeout = ⊤
IsJobInRange jobs.Beat = ⊤
IsJobInRange jobs.Close = ⊤
IsJobInRange jobs.Floor = ⊤
IsJobInRange (jobs.Submit client number text) = IsRequest client number
IsJobInRange (jobs.Deliver message) = message < 2 ^ 64

-- its numbers are in range, in a script of so many members
abbrev pub IsInRange : ℕ → Line → Type 0
IsInRange members (Clock node reading) = IsNode members node × IsSigned reading
IsInRange members (ClockAll reading) = IsSigned reading
IsInRange members (Submit node client number text) = IsNode members node × IsRequest client number
IsInRange members (Timeout node) = IsNode members node
IsInRange members (Beat node) = IsNode members node
IsInRange members (Close node) = IsNode members node
IsInRange members (Floor node) = IsNode members node
IsInRange members (Deliver message) = message < 2 ^ 64
IsInRange members (Lose message) = message < 2 ^ 64
IsInRange members LoseAll = ⊤
IsInRange members (Settle None) = ⊤
IsInRange members (Settle (Some rounds)) = (1 ≤ rounds) × (rounds ≤ 100)
IsInRange members Recover = ⊤
IsInRange members (Stop node) = IsNode members node
IsInRange members (Start node) = IsNode members node
IsInRange members (Torn node left job) = IsNode members node × IsJobInRange job
IsInRange members (Ask node text) = IsNode members node

-- the text of no line in range, in a script of so many members
abbrev pub IsNoLine : ℕ → List ℕ → Type 0
IsNoLine members text = (line : Line) → IsInRange members line → text ≢ line_text line
