-- The one spelling of a flight file, part by part. A function spells a value and then what follows it in the file. Each line ends with
-- LF, which is 10, and a space is 32.
use Rattle.std.specs.Prelude.{ℕ, ℤ, pos, negsuc, Bool, true, false, List, [], ◌∷◌, ◌++◌, length, codes, decimal, Option, None, Some}
use Rattle.std.specs.Fmt.{signed_decimal}
use Rattle.model.specs.declared.entry.Request.{Request}
use Rattle.model.specs.declared.entry.Entry.{Entry}
use Rattle.model.specs.declared.message.Body.{Body}
use Rattle.model.specs.declared.message.Body.TheVariants.{RequestVote, Vote, Append, Reply, Seek, Stored, Seal}
use Rattle.model.specs.declared.message.Input.TheVariants as input
use Rattle.model.specs.declared.message.Message.{Message}
use Rattle.flight.specs.declared.life.Packet.{Packet}
use Rattle.flight.specs.declared.life.Packet.TheVariants.{Local, Delivered}
use Rattle.flight.specs.declared.life.Step.{Step}
use Rattle.flight.specs.declared.life.Ending.{Ending}
use Rattle.flight.specs.declared.life.Ending.TheVariants.{Up, Stopped, Torn}
use Rattle.flight.specs.declared.outcome.Outcome.{Outcome}
use Rattle.flight.specs.declared.flight.Version.{Version}
use Rattle.flight.specs.declared.flight.Version.TheVariants.{One, Two, Three}
use Rattle.flight.specs.declared.flight.Answered.{Answered}
use Rattle.flight.specs.Contents.{OpeningContents, LifeContents, FlightContents}

-- ---- what lines are made of

-- a number in decimal, and the byte that ends it
abbrev pub number_text : ℕ → ℕ → List ℕ → List ℕ
number_text end n rest = decimal n ++ end ∷ rest

abbrev pub spaced : ℕ → List ℕ → List ℕ
spaced n rest = number_text 32 n rest

abbrev pub ended : ℕ → List ℕ → List ℕ
ended n rest = number_text 10 n rest

-- a number with `-` where it is below zero, and the byte that ends it
abbrev pub signed_text : ℕ → ℤ → List ℕ → List ℕ
signed_text end z rest = signed_decimal z ++ end ∷ rest

abbrev pub flag_number : Bool → ℕ
flag_number true = 1
flag_number false = 0

abbrev pub flag_text : ℕ → Bool → List ℕ → List ℕ
flag_text end flag rest = number_text end (flag_number flag) rest

-- the member that a vote went to, 0 for none
abbrev pub vote_number : Option ℕ → ℕ
vote_number None = 0
vote_number (Some member) = member

abbrev pub vote_text : Option ℕ → List ℕ → List ℕ
vote_text vote rest = spaced (vote_number vote) rest

-- the instant of a floor, -1 for none
abbrev pub floor_number : Option ℕ → ℤ
floor_number None = negsuc 0
floor_number (Some floor) = pos floor

abbrev pub floor_text : ℕ → Option ℕ → List ℕ → List ℕ
floor_text end floor rest = signed_text end (floor_number floor) rest

-- how many bytes, and then these bytes
abbrev pub block_text : List ℕ → List ℕ → List ℕ
block_text bytes rest = ended (length bytes) (bytes ++ 10 ∷ rest)

-- each in turn
abbrev pub each_text : {A : Type 0} → (A → List ℕ → List ℕ) → List A → List ℕ → List ℕ
each_text spell [] rest = rest
each_text spell (x ∷ xs) rest = spell x (each_text spell xs rest)

-- ---- entries

abbrev pub request_text : Request → List ℕ → List ℕ
request_text r rest = spaced r.client (spaced r.number (block_text r.text rest))

abbrev pub asked_text : Option Request → List ℕ → List ℕ
asked_text None rest = codes "close\n" ++ rest
asked_text (Some r) rest = request_text r rest

abbrev pub entry_text : Entry → List ℕ → List ℕ
entry_text e rest = codes "entry " ++ spaced e.term (spaced e.stamp (asked_text e.request rest))

-- how many entries, and then these entries
abbrev pub entries_text : List Entry → List ℕ → List ℕ
entries_text entries rest = ended (length entries) (each_text entry_text entries rest)

-- ---- messages and steps

-- whether a vote is given, and the voter's floor, which versions 1 and 2 leave out
abbrev pub ballot_text : Version → Bool → Option ℕ → List ℕ → List ℕ
ballot_text One given floor rest = flag_text 10 given rest
ballot_text Two given floor rest = flag_text 10 given rest
ballot_text Three given floor rest = flag_text 32 given (floor_text 10 floor rest)

-- what a message of this term says
abbrev pub body_text : Version → ℕ → Body → List ℕ → List ℕ
body_text version term (RequestVote last_index last_term) rest = codes "votereq " ++ spaced term (spaced last_index (ended last_term rest))
body_text version term (Vote given floor) rest = codes "vote " ++ spaced term (ballot_text version given floor rest)
body_text version term (Append prev_index prev_term entries commit) rest =
    codes "append " ++ spaced term (spaced prev_index (spaced prev_term (spaced commit (entries_text entries rest))))
body_text version term (Reply ok matched) rest = codes "reply " ++ spaced term (flag_text 32 ok (ended matched rest))
body_text version term (Seek index floor) rest = codes "seek " ++ spaced term (spaced index (ended floor rest))
body_text version term (Stored index floor) rest = codes "stored " ++ spaced term (spaced index (ended floor rest))
body_text version term (Seal index floor) rest = codes "seal " ++ spaced term (spaced index (ended floor rest))

-- a message that the step with this mark sent
abbrev pub message_text : Version → ℕ → Message → List ℕ → List ℕ
message_text version mark m rest = spaced m.sender (spaced mark (body_text version m.term m.body rest))

abbrev pub packet_text : Version → Packet → List ℕ → List ℕ
packet_text version (Local input.Timeout) rest = codes "timeout\n" ++ rest
packet_text version (Local input.Beat) rest = codes "beat\n" ++ rest
packet_text version (Local (input.Close reading)) rest = codes "close\n" ++ rest
packet_text version (Local (input.Floor reading)) rest = codes "floor\n" ++ rest
packet_text version (Local (input.Submit reading request)) rest = codes "submit " ++ request_text request rest
packet_text version (Delivered mark reading message) rest = codes "from " ++ message_text version mark message rest

-- a step but for its outcomes
abbrev pub made_text : Version → Step → List ℕ → List ℕ
made_text version s rest = spaced s.mark (signed_text 32 s.reading (packet_text version s.packet rest))

abbrev pub outcome_text : Outcome → List ℕ → List ℕ
outcome_text o rest = codes "outcome " ++ spaced o.index (spaced o.client (ended o.number (codes "text " ++ block_text o.text rest)))

-- version 1 has none
abbrev pub outcomes_text : Version → List Outcome → List ℕ → List ℕ
outcomes_text One outcomes rest = rest
outcomes_text Two outcomes rest = each_text outcome_text outcomes rest
outcomes_text Three outcomes rest = each_text outcome_text outcomes rest

abbrev pub step_text : Version → Step → List ℕ → List ℕ
step_text version s rest = codes "step " ++ made_text version s (outcomes_text version s.outcomes rest)

abbrev pub ending_text : Version → Ending → List ℕ → List ℕ
ending_text version Up rest = codes "up\n" ++ rest
ending_text version Stopped rest = codes "stopped\n" ++ rest
ending_text version (Torn s) rest = codes "torn " ++ made_text version s rest

-- ---- lives, answers and the whole

-- the floor that was stored, which versions 1 and 2 leave out
abbrev pub opening_floor_text : Version → Option ℕ → List ℕ → List ℕ
opening_floor_text One floor rest = rest
opening_floor_text Two floor rest = rest
opening_floor_text Three floor rest = floor_text 32 floor rest

abbrev pub opening_text : Version → OpeningContents → List ℕ → List ℕ
opening_text version o rest = codes "life " ++ spaced o.mark (spaced o.hard.term (vote_text o.hard.vote (opening_floor_text version o.hard.floor (entries_text o.entries rest))))

abbrev pub life_text : Version → LifeContents → List ℕ → List ℕ
life_text version l rest = opening_text version l.opening (each_text (step_text version) l.steps (ending_text version l.ending rest))

abbrev pub answer_text : Answered → List ℕ → List ℕ
answer_text a rest = codes "answer " ++ ended a.mark (codes "query " ++ block_text a.query (codes "text " ++ block_text a.answer rest))

-- the answers, and the line that ends the file
abbrev pub closing_text : List Answered → List ℕ → List ℕ
closing_text answers rest = each_text answer_text answers (codes "end\n" ++ rest)

abbrev pub version_number : Version → ℕ
version_number One = 1
version_number Two = 2
version_number Three = 3

-- the first line
abbrev pub version_text : Version → List ℕ → List ℕ
version_text version rest = codes "bitable flight " ++ ended (version_number version) rest

abbrev pub head_text : ℕ → ℕ → List ℕ → List ℕ
head_text node members rest = codes "node " ++ spaced node (codes "of " ++ ended members rest)

abbrev pub file_text : FlightContents → List ℕ → List ℕ
file_text f rest =
    version_text f.version (head_text f.node f.members (codes "schema " ++ block_text f.schema (each_text (life_text f.version) f.lives (closing_text f.answers rest))))

-- the whole file
abbrev pub flight_text : FlightContents → List ℕ
flight_text f = file_text f []
