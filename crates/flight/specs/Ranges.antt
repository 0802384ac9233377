-- Which values a flight file can hold.
use Rattle.std.specs.Prelude.{◌≡◌, ℕ, ℤ, ◌≤◌, ◌<◌, ◌^◌, Bool, true, false, not, ◌&&◌, List, [], ◌∷◌, ⊤, Option, None, Some, Ok, All}
use Rattle.model.specs.declared.entry.Request.{Request}
use Rattle.model.specs.declared.entry.Entry.{Entry}
use Rattle.model.specs.declared.message.Body.{Body}
use Rattle.model.specs.declared.message.Body.TheVariants.{RequestVote, Vote, Append, Reply, Seek, Stored, Seal}
use Rattle.model.specs.declared.message.Input.TheVariants as input
use Rattle.model.specs.declared.message.Message.{Message}
use Rattle.lines.specs.Number.{IsSigned}
use Rattle.sqlchecks.specs.Columns.{Tables}
use Rattle.schemaread.specs.Schemas.{SchemaSays}
use Rattle.sqlread.specs.Shapes.{QueryShape}
use Rattle.sqlread.specs.Texts.{query_in}
use Rattle.flight.specs.declared.life.Packet.{Packet}
use Rattle.flight.specs.declared.life.Packet.TheVariants.{Local, Delivered}
use Rattle.flight.specs.declared.life.Step.{Step}
use Rattle.flight.specs.declared.life.Ending.{Ending}
use Rattle.flight.specs.declared.life.Ending.TheVariants.{Up, Stopped, Torn}
use Rattle.flight.specs.declared.outcome.Outcome.{Outcome}
use Rattle.flight.specs.declared.flight.Version.{Version}
use Rattle.flight.specs.declared.flight.Version.TheVariants.{One, Two, Three}
use Rattle.flight.specs.declared.flight.Answered.{Answered}
use Rattle.flight.specs.Contents.{OpeningContents, LifeContents, FlightContents}

abbrev pub IsNumber : ℕ → Type 0
IsNumber n = n < 2 ^ 64

abbrev pub IsMark : ℕ → Type 0
IsMark n = (0 < n) × (n ≤ 9223372036854775807)

-- ---- versions

-- versions 1 and 2 know of no floors
abbrev pub has_floors : Version → Bool
has_floors One = false
has_floors Two = false
has_floors Three = true

-- ---- entries

abbrev pub IsClient : ℕ → Type 0
IsClient n = (0 < n) × (n < 2 ^ 16)

abbrev pub IsRequestNumber : ℕ → Type 0
IsRequestNumber n = (0 < n) × (n ≤ 2 ^ 62)

-- an instant
abbrev pub IsStamp : ℕ → Type 0
IsStamp n = n ≤ 253402214399999999

-- an instant, or none
abbrev pub IsFloor : Option ℕ → Type 0
IsFloor None = ⊤
IsFloor (Some floor) = IsStamp floor

abbrev pub IsRequest : Request → Type 0
IsRequest r = IsClient r.client × IsRequestNumber r.number

abbrev pub IsAsked : Option Request → Type 0
IsAsked None = ⊤
IsAsked (Some r) = IsRequest r

abbrev pub IsEntry : Entry → Type 0
IsEntry e = IsNumber e.term × IsStamp e.stamp × IsAsked e.request

-- ---- messages and steps

-- a floor that a member has, of which versions 1 and 2 know none
abbrev pub IsFloorIn : Version → Option ℕ → Type 0
IsFloorIn One floor = floor ≡ None
IsFloorIn Two floor = floor ≡ None
IsFloorIn Three floor = IsFloor floor

-- the index of an entry and a floor, of which versions 1 and 2 know no messages
abbrev pub IsFloorAt : Version → ℕ → ℕ → Type 0
IsFloorAt version index floor = (has_floors version ≡ true) × IsNumber index × IsStamp floor

abbrev pub IsBody : Version → Body → Type 0
IsBody version (RequestVote last_index last_term) = IsNumber last_index × IsNumber last_term
IsBody version (Vote given floor) = IsFloorIn version floor
IsBody version (Append prev_index prev_term entries commit) = IsNumber prev_index × IsNumber prev_term × All IsEntry entries × IsNumber commit
IsBody version (Reply ok matched) = IsNumber matched
IsBody version (Seek index floor) = IsFloorAt version index floor
IsBody version (Stored index floor) = IsFloorAt version index floor
IsBody version (Seal index floor) = IsFloorAt version index floor

-- a message to the node whose flight it is
abbrev pub IsMessage : Version → ℕ → Message → Type 0
IsMessage version node m = IsNumber m.sender × (m.addressee ≡ node) × IsNumber m.term × IsBody version m.body

-- a packet that bears this reading, if it bears one; versions 1 and 2 know no Floor
abbrev pub IsPacket : Version → ℕ → ℤ → Packet → Type 0
IsPacket version node reading (Local input.Timeout) = ⊤
IsPacket version node reading (Local input.Beat) = ⊤
IsPacket version node reading (Local (input.Close own)) = own ≡ reading
IsPacket version node reading (Local (input.Floor own)) = (has_floors version ≡ true) × (own ≡ reading)
IsPacket version node reading (Local (input.Submit own request)) = (own ≡ reading) × IsRequest request
IsPacket version node reading (Delivered mark own message) = (own ≡ reading) × IsMark mark × IsMessage version node message

-- a step that told nothing
abbrev pub IsSilent : Version → ℕ → Step → Type 0
IsSilent version node s = IsMark s.mark × IsSigned s.reading × IsPacket version node s.reading s.packet × (s.outcomes ≡ [])

abbrev pub IsOutcome : Outcome → Type 0
IsOutcome o = IsNumber o.index × IsClient o.client × IsRequestNumber o.number

-- version 1 has none
abbrev pub AreOutcomes : Version → List Outcome → Type 0
AreOutcomes One outcomes = outcomes ≡ []
AreOutcomes Two outcomes = All IsOutcome outcomes
AreOutcomes Three outcomes = All IsOutcome outcomes

abbrev pub IsStep : Version → ℕ → Step → Type 0
IsStep version node s = IsMark s.mark × IsSigned s.reading × IsPacket version node s.reading s.packet × AreOutcomes version s.outcomes

abbrev pub IsEnding : Version → ℕ → Ending → Type 0
IsEnding version node Up = ⊤
IsEnding version node Stopped = ⊤
IsEnding version node (Torn s) = IsSilent version node s

-- ---- lives, answers and the whole

abbrev pub IsVote : Option ℕ → Type 0
IsVote None = ⊤
IsVote (Some member) = (0 < member) × IsNumber member

abbrev pub IsOpening : Version → OpeningContents → Type 0
IsOpening version o = IsMark o.mark × IsNumber o.hard.term × IsVote o.hard.vote × IsFloorIn version o.hard.floor × All IsEntry o.entries

abbrev pub IsLife : Version → ℕ → LifeContents → Type 0
IsLife version node l = IsOpening version l.opening × All (IsStep version node) l.steps × IsEnding version node l.ending

-- its query reads over these tables
abbrev pub IsAnswer : Tables → Answered → Type 0
IsAnswer tables a = IsMark a.mark × ((query : QueryShape) × (query_in tables a.query ≡ Ok query))

abbrev pub is_up : Ending → Bool
is_up Up = true
is_up Stopped = false
is_up (Torn s) = false

-- the life before, if there is one, ended, and none but the last ends up
abbrev pub ends_go_on : Bool → List LifeContents → Bool
ends_go_on is_before_up [] = true
ends_go_on is_before_up (l ∷ lives) = not is_before_up && ends_go_on (is_up l.ending) lives

-- there is a life, and none but the last ends up
abbrev pub one_at_a_time : List LifeContents → Bool
one_at_a_time [] = false
one_at_a_time (l ∷ lives) = ends_go_on (is_up l.ending) lives

-- a group has 3 to 7 members, of whom the node is one
abbrev pub IsGroup : ℕ → ℕ → Type 0
IsGroup node members = (3 ≤ members) × (members ≤ 7) × (1 ≤ node) × (node ≤ members)

-- the text is that of tables, over which the queries read
abbrev pub IsAsking : List ℕ → List Answered → Type 0
IsAsking schema answers = (tables : Tables) × SchemaSays schema (Ok tables) × All (IsAnswer tables) answers

abbrev pub IsFlight : FlightContents → Type 0
IsFlight f = IsGroup f.node f.members × IsAsking f.schema f.answers × All (IsLife f.version f.node) f.lives × (one_at_a_time f.lives ≡ true)
