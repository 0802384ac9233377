-- Which events of a run are behind a moment of the lives.
use Rattle.std.specs.Prelude.{◌≡◌, ◌↔◌, ℕ, zero, suc, ◌+◌, true, Option, None, Some, Ok, List, [], ◌∷◌, slice_get, option_and_then, option_map, unwrap_or}
use Rattle.std.specs.declared.vec.Vec.{Vec}
use Rattle.std.specs.declared.alloc.Global.{Global}
use Rattle.fault.specs.Refusal.{shown}
use Rattle.fault.specs.declared.refusal.Refusal.{Refusal}
use Rattle.fault.specs.declared.refusal.Refusal.TheVariants.{NotClosed}
use Rattle.model.specs.Lists.{nth}
use Rattle.model.specs.declared.entry.Entry.{Entry}
use Rattle.model.specs.Members.{Node}
use Rattle.model.specs.Transactions.{Language}
use Rattle.model.specs.Worlds.{World, Event, Output, Gives, happens}
use Rattle.model.specs.declared.event.Job.{Job}
use Rattle.model.specs.declared.event.Left.{Left}
use Rattle.model.specs.Worlds.Event.{Hand, Deliver, Stop, Start, Torn, Ask}
use Rattle.model.specs.declared.event.Job.TheVariants.{Local, Delivery}
use Rattle.model.specs.declared.event.Left.TheVariants.{Old, New}
use Rattle.model.specs.Worlds.Output.{Sent, Applied, Answered, Refused}
use Rattle.keep.specs.Durable.{Durable, blank}
use Rattle.flight.specs.Telling.{outcome_of}
use Rattle.flight.specs.declared.flight.Version.{Version}
use Rattle.flight.specs.declared.flight.Version.TheVariants.{One, Two, Three}
use Rattle.flight.specs.declared.outcome.Outcome.{Outcome}
use Rattle.flight.specs.declared.life.Life.{Life}
use Rattle.flight.specs.declared.life.Opening.{Opening}
use Rattle.flight.specs.declared.life.Step.{Step}
use Rattle.flight.specs.declared.life.Ending.{Ending}
use Rattle.flight.specs.declared.life.Ending.TheVariants as ending
use Rattle.flight.specs.declared.life.Packet.{Packet}
use Rattle.flight.specs.declared.life.Packet.TheVariants as packet
use Rattle.answer.specs.declared.Answer.{Answer}
use Rattle.answer.specs.Answers.{answer_of, columns_in}
use Rattle.answertext.specs.Answers.{answer_text}
use Rattle.sqlchecks.specs.Columns.{Tables}
use Rattle.sqlread.specs.Meaning.{language_of, select_of}
use Rattle.sqlread.specs.Shapes.{QueryShape}
use Rattle.sqlread.specs.Texts.{query_in}
use Rattle.world.specs.View.{durable_of, if_up}
use Rattle.moments.specs.declared.moment.Deed.{Deed}
use Rattle.moments.specs.declared.moment.Deed.TheVariants.{Opens, Takes, Tears, Answers, Stops}
use Rattle.moments.specs.declared.moment.Moment.{Moment}
use Rattle.moments.specs.declared.recorded.Recorded.{Recorded}
use Rattle.moments.specs.Past.{Past, IsSent}
use Rattle.moments.specs.Rising.{IsMarked}

-- what was recorded of a group with these tables, in flights of this version: the lives of each node, and the answers
pub record Evidence : Type 0 where
  pub version : Version
  pub tables : Tables
  pub lives : List (Vec Life Global)
  pub answers : List Recorded

-- a life of a node, by its place
abbrev pub life_at : List (Vec Life Global) → ℕ → ℕ → Option Life
life_at lives node k = option_and_then (λ (own : Vec Life Global). slice_get own.items k) (nth lives node)

-- a step of a life, by its place
abbrev pub step_at : List (Vec Life Global) → ℕ → ℕ → ℕ → Option Step
step_at lives node k step = option_and_then (λ (life : Life). slice_get life.steps.items step) (life_at lives node k)

-- ---- what is stored

-- what was stored as the life began
abbrev pub opened_with : Opening → Durable
opened_with o = record { hard = o.hard; log = o.entries.items }

-- the member is up, and has this stored
abbrev pub HasStored : Option Node → Opening → Type 0
HasStored None o = ⊥
HasStored (Some x) o = (x.up ≡ true) × (durable_of x ≡ opened_with o)

-- the log of the member, nothing where it is down or not there
abbrev pub log_in : Option Node → List Entry
log_in member = unwrap_or (option_map (λ x. x.log) (if_up member)) []

-- no member is up there
abbrev pub IsDown : Option Node → Type 0
IsDown x = if_up x ≡ None

-- the first life is the run's own beginning, and empty; each other is a Start of a member that is down, and has then
-- stored what the run has there
abbrev pub IsOpened : Tables → ℕ → Past → ℕ → ℕ → Opening → List Event → Type 0
IsOpened t n p node zero o events = (opened_with o ≡ blank) × (events ≡ [])
IsOpened t n p node (suc k) o events = IsDown (nth p.world.nodes node) × HasStored (nth (happens (language_of t) n p.world (Start node)).nodes node) o × (events ≡ Start node ∷ [])

-- ---- what is taken

-- a delivery is that of a message which was sent to the node at its envelope's mark
abbrev pub IsJob : Past → ℕ → Packet → Job → Type 0
IsJob p node (packet.Local input) job = job ≡ Local input
IsJob p node (packet.Delivered at reading message) job = (k : ℕ) × IsSent p at node message k × (job ≡ Delivery k reading)

abbrev pub job_event : ℕ → Job → Event
job_event node (Local input) = Hand node input
job_event node (Delivery k reading) = Deliver k reading

-- what is told among outputs, as a flight records it
abbrev pub outcomes_in : List Output → List Outcome
outcomes_in [] = []
outcomes_in (Sent number message ∷ outs) = outcomes_in outs
outcomes_in (Applied m told ∷ outs) = outcome_of told ∷ outcomes_in outs
outcomes_in (Refused m refusal ∷ outs) = outcomes_in outs
outcomes_in (Answered m answer ∷ outs) = outcomes_in outs

-- from version 2 on these are the outcomes that the outputs tell, in their order; version 1 has none
abbrev pub AreTold : Version → List Output → List Outcome → Type 0
AreTold One outs outcomes = Unit {0}
AreTold Two outs outcomes = outcomes_in outs ≡ outcomes
AreTold Three outs outcomes = outcomes_in outs ≡ outcomes

-- what the event gives tells these outcomes
abbrev pub TellsSo : Version → Language → ℕ → World → Event → List Outcome → Type 0
TellsSo v schema n w event outcomes = (outs : List Output) × Gives schema n w event outs × AreTold v outs outcomes

-- the packet is one that was there to be taken, and the run tells of the step what was recorded
abbrev pub IsTaken : Version → Tables → ℕ → Past → ℕ → Option Step → List Event → Type 0
IsTaken v t n p node None events = ⊥
IsTaken v t n p node (Some s) events = (job : Job) × IsJob p node s.packet job × TellsSo v (language_of t) n p.world (job_event node job) s.outcomes × (events ≡ job_event node job ∷ [])

-- old exactly where the node's next life begins with what it had stored before
abbrev pub IsLeftBy : Option Life → Option Node → Left → Type 0
IsLeftBy None x left = left ≡ New
IsLeftBy (Some next) x left = (left ≡ Old) ↔ HasStored x next.opening

-- the packet is one that was there to be taken, and the step, which was cut short, told nothing
abbrev pub IsCut : Past → ℕ → Option Life → Ending → List Event → Type 0
IsCut p node next ending.Up events = ⊥
IsCut p node next ending.Stopped events = ⊥
IsCut p node next (ending.Torn s) events = (job : Job) × (left : Left) × IsJob p node s.packet job × IsLeftBy next (nth p.world.nodes node) left × (events ≡ Torn node job left ∷ []) × (s.outcomes ≡ [])

-- ---- what is answered

-- the text of a refusal of a query that was not closed
abbrev pub IsRefusalText : Refusal → List ℕ → Type 0
IsRefusalText (NotClosed closed) text = text ≡ shown (NotClosed closed)
IsRefusalText _ text = ⊥

-- the text of an answer about the table at this place, or of a refusal
abbrev pub IsText : Tables → ℕ → List Output → List ℕ → Type 0
IsText tables table (Answered m a ∷ []) text = (answer : Answer) × (answer_of answer ≡ a) × (answer.columns.items ≡ columns_in tables table) × (text ≡ answer_text answer)
IsText tables table (Refused m refusal ∷ []) text = IsRefusalText refusal text
IsText tables table _ text = ⊥

-- the query is asked, and the run answers so
abbrev pub IsAnswered : Tables → ℕ → Past → ℕ → Recorded → List Event → Type 0
IsAnswered t n p node a events = (q : QueryShape) × (out : List Output) × (query_in t a.query ≡ Ok q) × Gives (language_of t) n p.world (Ask node (select_of q)) out × IsText t q.table out a.answer × (events ≡ Ask node (select_of q) ∷ [])

-- ---- each moment

-- the answer rests on a mark of its node, and the run answers so
abbrev pub IsAnsweredBy : Evidence → ℕ → Past → ℕ → Option Recorded → List Event → Type 0
IsAnsweredBy r n p node None events = ⊥
IsAnsweredBy r n p node (Some a) events = IsMarked r.lives a × IsAnswered r.tables n p node a events

abbrev pub IsLifeBegun : Evidence → ℕ → Past → ℕ → ℕ → Option Life → List Event → Type 0
IsLifeBegun r n p node k None events = ⊥
IsLifeBegun r n p node k (Some life) events = IsOpened r.tables n p node k life.opening events

abbrev pub IsLifeCut : Evidence → Past → ℕ → ℕ → Option Life → List Event → Type 0
IsLifeCut r p node k None events = ⊥
IsLifeCut r p node k (Some life) events = IsCut p node (life_at r.lives node (k + 1)) life.ending events

abbrev pub IsBehindDeed : Evidence → ℕ → Past → ℕ → Deed → List Event → Type 0
IsBehindDeed r n p node (Opens k) events = IsLifeBegun r n p node k (life_at r.lives node k) events
IsBehindDeed r n p node (Takes k step) events = IsTaken r.version r.tables n p node (step_at r.lives node k step) events
IsBehindDeed r n p node (Tears k) events = IsLifeCut r p node k (life_at r.lives node k) events
IsBehindDeed r n p node (Answers k) events = IsAnsweredBy r n p node (slice_get r.answers k) events
IsBehindDeed r n p node (Stops k) events = events ≡ Stop node ∷ []

-- these events of a run with this past are what happened at the moment
abbrev pub IsBehind : Evidence → ℕ → Past → Moment → List Event → Type 0
IsBehind r n p m events = IsBehindDeed r n p m.node m.deed events
