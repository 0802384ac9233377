-- What an audit says: which events of a run are behind each moment of the lives, when a run explains all of them, and what is upheld
-- then.
use Rattle.std.specs.Prelude.{◌≡◌, ◌≢◌, ◌⊎◌, ℕ, zero, suc, ◌+◌, ◌<◌, Option, Some, Result, Ok, Err, codes, List, [], ◌∷◌, ◌++◌, length, slice_get, Contains, IsSomeAnd}
use Rattle.std.specs.declared.vec.Vec.{Vec}
use Rattle.std.specs.declared.alloc.Global.{Global}
use Rattle.fault.specs.declared.refusal.Refusal.{Refusal}
use Rattle.fault.specs.declared.refusal.Refusal.TheVariants.{NotClosed}
use Rattle.model.specs.Lists.{nth}
use Rattle.model.specs.Transactions.{Language}
use Rattle.model.specs.Answers.{Select, Answer as TheAnswer}
use Rattle.model.specs.Worlds.{Event, Output, new_world}
use Rattle.model.specs.Worlds.Event.{Stop, Start, Ask}
use Rattle.model.specs.Worlds.Output.{Applied, Answered, Refused}
use Rattle.model.specs.declared.event.Job.{Job}
use Rattle.model.specs.declared.entry.Entry.{Entry}
use Rattle.model.specs.declared.entry.Told.{Told}
use Rattle.keep.specs.Durable.{blank}
use Rattle.flight.specs.declared.flight.Version.TheVariants.{One}
use Rattle.flight.specs.declared.outcome.Outcome.{Outcome}
use Rattle.flight.specs.declared.life.Life.{Life}
use Rattle.flight.specs.declared.life.Opening.{Opening}
use Rattle.flight.specs.declared.life.Step.{Step}
use Rattle.answer.specs.declared.Answer.{Answer}
use Rattle.answer.specs.Answers.{answer_of, columns_in}
use Rattle.answertext.specs.Lines.{answer_text}
use Rattle.sqlchecks.specs.Columns.{Tables}
use Rattle.sqlread.specs.Meaning.{language_of}
use Rattle.believed.specs.Days.{instant_text}
use Rattle.believed.specs.Queries.{IsQuestion}
use Rattle.believed.specs.Refusals.{shown}
use Rattle.believed.specs.Logs.{told_at}
use Rattle.believed.specs.Answers.{IsAnswer}
use Rattle.believed.specs.Worlds.{happens, run, Gives}
use Rattle.believed.specs.Agreement.{decided}
use Rattle.moments.specs.declared.moment.Deed.{Deed}
use Rattle.moments.specs.declared.moment.Deed.TheVariants.{Opens, Takes, Tears, Answers, Stops}
use Rattle.moments.specs.declared.moment.Moment.{Moment}
use Rattle.moments.specs.declared.recorded.Recorded.{Recorded}
use Rattle.moments.specs.declared.recorded.AuditFault.{AuditFault}
use Rattle.moments.specs.Past.{Past, beginning, grown}
use Rattle.moments.specs.Rising.{IsMarked}
use Rattle.moments.specs.Moments.{IsTimeline}
use Rattle.moments.specs.Behind.{Evidence, life_at, step_at, opened_with, HasStored, IsDown, IsJob, job_event, IsCut}
use Rattle.moments.specs.Faults.{NoneAre, IsFaultAt}

-- ---- what is behind a moment

-- what happened at a mark has happened
abbrev pub after : Language → ℕ → Past → ℕ → List Event → Past
after schema n p mark events = grown p mark (run schema n p.world events)

-- the first life is the run's own beginning, and empty; each other is a Start of a member that is down, and has then stored what
-- the run has there
abbrev pub IsOpened : Evidence → ℕ → Past → ℕ → ℕ → Opening → List Event → Type 0
IsOpened r n p node zero o events = (opened_with o ≡ blank) × (events ≡ [])
IsOpened r n p node (suc k) o events =
    IsDown (nth p.world.nodes node) × HasStored (nth (happens (language_of r.tables) n p.world (Start node)).nodes node) o × (events ≡ Start node ∷ [])

-- what is told of a request, as a flight records it: the instant at which it was accepted, or its refusal
abbrev pub told_text : Result ℕ Refusal → List ℕ
told_text (Ok stamp) = codes "accepted " ++ instant_text stamp
told_text (Err refusal) = codes "refused " ++ shown refusal

abbrev pub outcome_of : Told → Outcome
outcome_of told = record { index = told.index; client = told.client; number = told.number; text = told_text told.outcome }

abbrev pub outcomes_in : List Output → List Outcome
outcomes_in [] = []
outcomes_in (Applied m told ∷ outs) = outcome_of told ∷ outcomes_in outs
outcomes_in (out ∷ outs) = outcomes_in outs

-- the packet is one that was there to be taken, and the run tells of the step what was recorded, if not in version 1, which has no
-- outcomes
abbrev pub IsTaken : Evidence → ℕ → Past → ℕ → Step → List Event → Type 0
IsTaken r n p node s events = (job : Job) × (outs : List Output) × IsJob p node s.packet job × Gives (language_of r.tables) n p.world (job_event node job) outs
    × (r.version ≢ One → outcomes_in outs ≡ s.outcomes) × (events ≡ job_event node job ∷ [])

-- the text of an answer about the table at this place, or of the refusal of a query that was not closed
abbrev pub IsText : Tables → ℕ → List Output → List ℕ → Type 0
IsText tables table (Answered m a ∷ []) text =
    (answer : Answer) × (answer_of answer ≡ a) × (answer.columns.items ≡ columns_in tables table) × (text ≡ answer_text answer)
IsText tables table (Refused m (NotClosed time) ∷ []) text = text ≡ shown (NotClosed time)
IsText tables table outs text = ⊥

-- the answer rests on a mark of its node, the query is asked, and the run answers so
abbrev pub IsAnswered : Evidence → ℕ → Past → ℕ → Recorded → List Event → Type 0
IsAnswered r n p node a events = (q : Select) × (out : List Output) × IsMarked r.lives a × IsQuestion r.tables a.query (Ok q)
    × Gives (language_of r.tables) n p.world (Ask node q) out × IsText r.tables q.table out a.answer × (events ≡ Ask node q ∷ [])

-- these events of a run with this past are what a node did
abbrev pub IsBehind : Evidence → ℕ → Past → ℕ → Deed → List Event → Type 0
IsBehind r n p node (Opens k) events = IsSomeAnd (life_at r.lives node k) (λ life. IsOpened r n p node k life.opening events)
IsBehind r n p node (Takes k step) events = IsSomeAnd (step_at r.lives node k step) (λ s. IsTaken r n p node s events)
IsBehind r n p node (Tears k) events = IsSomeAnd (life_at r.lives node k) (λ life. IsCut p node (life_at r.lives node (k + 1)) life.ending events)
IsBehind r n p node (Answers k) events = IsSomeAnd (slice_get r.answers k) (λ a. IsAnswered r n p node a events)
IsBehind r n p node (Stops k) events = events ≡ Stop node ∷ []

-- ---- when a run explains what was recorded, and where none does

-- moment by moment these events happened, from one past up to another
abbrev pub Leads : Evidence → ℕ → Past → List Moment → List Event → Past → Type 0
Leads r n p [] events q = (events ≡ []) × (q ≡ p)
Leads r n p (m ∷ moments) events q = (now : List Event) × (later : List Event) × (events ≡ now ++ later) × IsBehind r n p m.node m.deed now
    × Leads r n (after (language_of r.tables) n p m.mark now) moments later q

-- The join of the lives is whole, and these are its events; in the run over them each node begins, takes and tells, is cut
-- short, answers and ends as was recorded
pub record Explains (r : Evidence) (events : List Event) : Type 0 where
  pub moments : List Moment
  pub timeline : IsTimeline r.lives r.answers moments
  pub end : Past
  pub leads : Leads r (length r.lives) (beginning (length r.lives)) moments events end

-- the moments before one happened, from this past; it has no events then, and this is its fault
pub record IsStuck (r : Evidence) (n : ℕ) (p : Past) (moments : List Moment) (fault : AuditFault) : Type 0 where
  pub before : List Moment
  pub moment : Moment
  pub later : List Moment
  pub is : moments ≡ before ++ moment ∷ later
  pub events : List Event
  pub past : Past
  pub leads : Leads r n p before events past
  pub none : NoneAre (IsBehind r n past moment.node moment.deed)
  pub named : IsFaultAt r.lives past moment fault

-- the fault of the first moment of the join that has no events
abbrev pub IsFirst : Evidence → AuditFault → Type 0
IsFirst r fault = (moments : List Moment) × IsTimeline r.lives r.answers moments × IsStuck r (length r.lives) (beginning (length r.lives)) moments fault

-- ---- what is upheld

-- the entries that the run of these events decides
abbrev pub decided_in : Evidence → List Event → List Entry
decided_in r events = decided (language_of r.tables) (length r.lives) (new_world (length r.lives)) events

-- this answer was recorded: its question was asked in the run, it is what the decided entries give, run one at a time, and what
-- was not decided as it was asked is stamped after its last instant
pub record IsUpheld (r : Evidence) (events : List Event) (a : Recorded) (x : TheAnswer) : Type 0 where
  pub question : Select
  pub reads : IsQuestion r.tables a.query (Ok question)
  pub text : IsText r.tables question.table (Answered a.node x ∷ []) a.answer
  pub before : List Event
  pub after : List Event
  pub asked : before ++ Ask a.node question ∷ after ≡ events
  pub given : IsAnswer (language_of r.tables) question x.last (decided_in r events) x
  pub closed : (i : ℕ) (e : Entry) → length (decided_in r before) < i → nth (decided_in r events) i ≡ Some e → x.last < e.stamp

-- One list of entries is decided. Each outcome that a step told is that of its request there. Each answer is what this list gives,
-- and nothing that is decided later bears an instant that it asked about, or it says that the question was not closed. Answers to
-- one question are equal, whichever nodes gave them and whenever (one without system time is AS OF the last instant that it names).
pub record Upholds (r : Evidence) (events : List Event) : Type 0 where
  pub outcomes : (node : ℕ) (own : Vec Life Global) (life : Life) (step : Step) (o : Outcome) → r.version ≢ One → nth r.lives node ≡ Some own →
      Contains own.items life → Contains life.steps.items step → Contains step.outcomes o →
      (told : Told) × (outcome_of told ≡ o) × (told_at (language_of r.tables) (decided_in r events) told.index ≡ Some told)
  pub answers : (a : Recorded) → Contains r.answers a →
      ((x : TheAnswer) × IsUpheld r events a x) ⊎ ((time : Option (List ℕ)) × (a.answer ≡ shown (NotClosed time)))
  pub equal : (a b : Recorded) (x y : TheAnswer) → IsUpheld r events a x → IsUpheld r events b y → a.query ≡ b.query → x.last ≡ y.last →
      a.answer ≡ b.answer
