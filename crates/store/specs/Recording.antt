-- Which events of a run the lines of a journal record.
use Rattle.std.specs.Prelude.{◌≡◌, ◌⊎◌, ℕ, ℤ, Option, Some, List, [], ◌∷◌, ◌++◌, fold, All, ⊤}
use Rattle.std.specs.List.{Contains}
use Rattle.flight.specs.declared.outcome.Outcome.{Outcome}
use Rattle.flight.specs.Telling.{outcome_of}
use Rattle.model.specs.declared.entry.Told.{Told}
use Rattle.model.specs.declared.event.Job.{Job}
use Rattle.model.specs.declared.event.Job.TheVariants.{Local, Delivery}
use Rattle.model.specs.declared.event.Left.{Left}
use Rattle.model.specs.declared.message.Input.TheVariants.{Timeout as TheTimeout, Beat as TheBeat, Close as TheClose, Floor as TheFloor, Submit as TheSubmit}
use Rattle.model.specs.Transactions.{Language}
use Rattle.model.specs.Lists.{nth}
use Rattle.model.specs.Members.{Node}
use Rattle.model.specs.Worlds.{World, Event, Start, Stop, Torn, run}
use Rattle.node.specs.View.{durable_of}
use Rattle.sessions.specs.Kills.{durable, whole}
use Rattle.journal.specs.Digests.{summary_of}
use Rattle.journal.specs.declared.stored.Summary.{Summary}
use Rattle.journal.specs.declared.line.Taken.{Taken}
use Rattle.journal.specs.declared.line.Taken.TheVariants.{Timeout, Beat, Close, Floor, Submit, Message}
use Rattle.journal.specs.declared.line.Line.{Line}
use Rattle.journal.specs.declared.line.Line.TheVariants.{Life, Clock, Takes, Made, Ends}
use Rattle.store.specs.Lines.{Lines, filed_in}

-- what clocks show behind a line, and behind some
abbrev pub reading_after : Option ℤ → Line → Option ℤ
reading_after reading (Clock now) = Some now
reading_after reading line = reading

abbrev pub last_reading : Option ℤ → List Line → Option ℤ
last_reading reading lines = fold reading_after reading lines

-- what a member takes, as a job of a run, where clocks show this
abbrev pub job_of : ℤ → Taken → Job
job_of now Timeout = Local TheTimeout
job_of now Beat = Local TheBeat
job_of now Close = Local (TheClose now)
job_of now Floor = Local (TheFloor now)
job_of now (Submit request) = Local (TheSubmit now request)
job_of now (Message number) = Delivery number now

-- a member's step with this job, whole or cut short
abbrev pub IsStep : ℕ → Job → Event → Type 0
IsStep m job event = (event ≡ whole m job) ⊎ ((left : Left) × (event ≡ Torn m job left))

-- the member has this stored, in short
abbrev pub HasInShort : World → ℕ → Summary → Type 0
HasInShort w m stored = (x : Node) × (nth w.nodes m ≡ Some x) × (stored ≡ summary_of (durable_of x))

-- from this world on a line records these events: a start of a member, which has this stored, a step, a stop, or none
abbrev pub Records : World → Option ℤ → Line → List Event → Type 0
Records w reading (Life m stored) events = (events ≡ Start m ∷ []) × HasInShort w m stored
Records w reading (Takes m taken) events = (now : ℤ) × (reading ≡ Some now) × (event : Event) × IsStep m (job_of now taken) event × (events ≡ event ∷ [])
Records w reading (Ends m) events = events ≡ Stop m ∷ []
Records w reading line events = events ≡ []

-- from this world on lines record these events, in order
abbrev pub RecordAll : Language → ℕ → World → Option ℤ → List Line → List Event → Type 0
RecordAll language n w reading [] events = events ≡ []
RecordAll language n w reading (line ∷ lines) events = (first rest : List Event) × Records w reading line first × RecordAll language n (run language n w first) (reading_after reading line) lines rest × (events ≡ first ++ rest)

-- ---- what lines tell of requests

-- each of these outcomes is of something that is told so
abbrev pub AreOf : (Told → Type 0) → List Outcome → Type 0
AreOf tells outcomes = All (λ (o : Outcome). (told : Told) × tells told × (o ≡ outcome_of told)) outcomes

-- where a line ends a step of a member, this member says these outcomes
abbrev pub IsTrue : (ℕ → List Outcome → Type 0) → Line → Type 0
IsTrue says (Made m outcomes) = says m outcomes
IsTrue says line = ⊤

-- it records no event, and where it ends a step, the member says its outcomes
abbrev pub IsQuiet : (ℕ → List Outcome → Type 0) → Line → Type 0
IsQuiet says (Life m stored) = ⊥
IsQuiet says (Takes m taken) = ⊥
IsQuiet says (Ends m) = ⊥
IsQuiet says line = IsTrue says line

-- this member says outcomes of these
abbrev pub OneSays : ℕ → List Told → ℕ → List Outcome → Type 0
OneSays member all m outcomes = (m ≡ member) × AreOf (Contains all) outcomes

-- nobody says anything
abbrev pub NobodySays : ℕ → List Outcome → Type 0
NobodySays m outcomes = ⊥

-- it records no event and ends no step
abbrev pub IsSilent : Line → Type 0
IsSilent line = IsQuiet NobodySays line

-- it starts or stops a member, which stores nothing
abbrev pub IsStartOrStop : Event → Type 0
IsStartOrStop event = (m : ℕ) × ((event ≡ Start m) ⊎ (event ≡ Stop m))

-- Lines record events, but for starts and stops at the end of a journal that is spent. Those that are on the device record the first of the
-- events, after which nothing else was stored.
pub record AreRecorded (language : Language) (n : ℕ) (w : World) (reading : Option ℤ) (lines : Lines) (events : List Event) (spent : Type 0) : Type 0 where
  pub filed : List Event
  pub waiting : List Event
  pub lost : List Event
  pub events_are : events ≡ filed ++ (waiting ++ lost)
  pub on_device : RecordAll language n w reading (filed_in lines) filed
  pub in_buffer : RecordAll language n (run language n w filed) (last_reading reading (filed_in lines)) lines.rest waiting
  pub idle : All IsStartOrStop lost
  pub none : (lost ≡ []) ⊎ spent
  pub stored : durable (run language n w events) ≡ durable (run language n w filed)
