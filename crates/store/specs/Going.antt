-- An open store is a run of the group.
use Rattle.std.specs.Prelude.{◌≡◌, ◌⊎◌, ℕ, ◌+◌, true, Option, Some, None, Result, Ok, Err, List, [], ◌∷◌, ◌++◌, IfSome, length, slice_get, slice_set}
use Rattle.std.specs.List.{All, Contains}
use Rattle.fault.specs.declared.refusal.Refusal.{Refusal as Reason}
use Rattle.model.specs.Lists.{nth}
use Rattle.model.specs.Members.{Node}
use Rattle.model.specs.declared.entry.Told.{Told}
use Rattle.model.specs.declared.event.Job.{Job}
use Rattle.model.specs.declared.message.Message.{Message}
use Rattle.model.specs.Worlds.{World, Event, Output, run, effect, is_for, starts, stops}
use Rattle.model.specs.Worlds.Output.{Applied, Refused as Refuses}
use Rattle.keep.specs.Durable.{Durable}
use Rattle.sqlread.specs.Meaning.{language_of}
use Rattle.node.specs.declared.node.Out.{Out}
use Rattle.node.specs.declared.node.Fault.{Fault}
use Rattle.node.specs.View.{works}
use Rattle.node.specs.Work.{Work}
use Rattle.sessions.specs.Kills.{opened}
use Rattle.runlaws.specs.Going.{AreSeated, Goes, HasGiven, WasTold}
use Rattle.store.specs.declared.seat.Seat.{Seat}
use Rattle.store.specs.declared.store.Store.{Store}
use Rattle.store.specs.declared.steps.Letter.{Letter}
use Rattle.store.specs.declared.steps.Stepped.{Stepped}
use Rattle.store.specs.declared.steps.Stepped.TheVariants as stepped
use Rattle.store.specs.declared.steps.Watched.{Watched}
use Rattle.store.specs.declared.outcome.Outcome.{Outcome}
use Rattle.store.specs.declared.outcome.Outcome.TheVariants.{Accepted, Refused, Unanswered}
use Rattle.store.specs.declared.refusal.StoreRefusal.{StoreRefusal}
use Rattle.store.specs.Continuing.{IsContinued, IsKeptOn, IsKeptSo, reading_in}
use Rattle.store.specs.Lines.{Lines, behind, lines_in, rest_behind, waiting}
use Rattle.flight.specs.declared.outcome.Outcome.{Outcome as Noted}
use Rattle.store.specs.Noting.{AreWritten, IsEnd}
use Rattle.store.specs.Recording.{AreOf, AreRecorded, IsSilent, IsTrue, NobodySays, OneSays}
use Rattle.journal.specs.declared.line.Taken.{Taken}
use Rattle.journal.specs.declared.line.Line.{Line}
use Rattle.journal.specs.declared.line.Line.TheVariants.{Takes}
use Rattle.store.specs.declared.scribe.Scribe.{Scribe}
use Rattle.store.specs.Journals.{IsSpent}
use Rattle.store.specs.Nodes.{StepsTo}
use Rattle.store.specs.Seats.{HasMember, IsClean, KeepsStored}

-- so many messages were sent, and each letter is the one of its number
abbrev pub AreUnderWay : List Letter → ℕ → List Message → Type 0
AreUnderWay letters count sent = (count ≡ length sent) × All (λ (l : Letter). nth sent l.number ≡ Some l.message) letters

-- of any world
abbrev pub Anywhere : World → Type 0
Anywhere w = Unit {0}

-- ---- what is told of the request that is waited for

-- one of these tells the outcome of the request of this client and number
abbrev pub IsAmong : List Told → (client number : ℕ) → Result ℕ Reason → Type 0
IsAmong told client number o = (one : Told) × Contains told one × (one.client ≡ client) × (one.number ≡ number) × (one.outcome ≡ o)

-- the request that is waited for had this outcome before, or it is told
abbrev pub Heard : (ℕ → ℕ → Result ℕ Reason → Type 0) → Option Watched → Result ℕ Reason → Type 0
Heard tells None o = ⊥
Heard tells (Some v) o = (v.outcome ≡ Some o) ⊎ tells v.client v.number o

-- what is waited for then, if anything is, was so before; if it has an outcome, it had it before, or it is told
abbrev pub Hears : (ℕ → ℕ → Result ℕ Reason → Type 0) → Option Watched → Option Watched → Type 0
Hears tells old None = Unit {0}
Hears tells None (Some w) = ⊥
Hears tells (Some v) (Some w) = (w.client ≡ v.client) × (w.number ≡ v.number) × IfSome w.outcome (Heard tells (Some v))

-- an outcome is that of the request that is waited for, or why a member refused what it was handed in one of these events
abbrev pub IsOutcome : Option Watched → Outcome → List (List Output) → Type 0
IsOutcome watched (Accepted stamp) gave = Heard (WasTold gave) watched (Ok stamp)
IsOutcome watched (Refused reason) gave = Heard (WasTold gave) watched (Err reason) ⊎ ((m : ℕ) × HasGiven gave (Refuses m reason))
IsOutcome watched Unanswered gave = Unit {0}

-- an outcome is what a member told of the request in one of these events, or why one refused what it was handed
abbrev pub ComesOf : (client number : ℕ) → Outcome → List (List Output) → Type 0
ComesOf client number (Accepted stamp) gave = WasTold gave client number (Ok stamp)
ComesOf client number (Refused reason) gave = WasTold gave client number (Err reason) ⊎ ((m : ℕ) × HasGiven gave (Refuses m reason))
ComesOf client number Unanswered gave = Unit {0}

-- a member told these outcomes in these events
abbrev pub ToldIn : List (List Output) → ℕ → List Noted → Type 0
ToldIn gave m outcomes = AreOf (λ told. HasGiven gave (Applied m told)) outcomes

-- each outcome that these lines have of a member it told in one of these events
abbrev pub AreToldIn : List (List Output) → List Line → Type 0
AreToldIn gave lines = All (IsTrue (ToldIn gave)) lines

-- a refusal of a step is one that the member gave
abbrev pub SaysWhy : ℕ → Result Stepped StoreRefusal → List (List Output) → Type 0
SaysWhy m (Ok stepped.Done) gave = Unit {0}
SaysWhy m (Ok (stepped.Refused reason)) gave = HasGiven gave (Refuses m reason)
SaysWhy m (Ok stepped.Fell) gave = Unit {0}
SaysWhy m (Err refusal) gave = Unit {0}

-- lines that record nothing came to a journal, and then that a member begins a step
abbrev pub BeginsStep : {J : Type 0} → (contents : J → Option (List ℕ)) → Option (Scribe J) → Option (Scribe J) → (m : ℕ) → Taken → Type 0
BeginsStep contents old new m taken = (before : List Line) × All IsSilent before × IsContinued contents old new (waiting (before ++ Takes m taken ∷ []))

-- lines that came to a journal, and those that were in its buffer before
abbrev pub with_begun : List Line → Lines → Lines
with_begun [] lines = lines
with_begun (line ∷ begun) lines = record { groups = behind (line ∷ begun) lines.groups; rest = rest_behind (line ∷ begun) lines.groups lines.rest }

module _ {K J I : Type 0} {an : _} {g : _} {s : _} {d : _} where
  -- nothing wrong was taken as true, and each database that is at rest holds something
  abbrev pub AreClean : (honest : K → Type 0) (holds : I → Durable → Type 0) → Store K J I an g s d → Type 0
  AreClean honest holds store = All (IsClean honest holds) store.seats.items

  -- The members and the letters of a store are those of a world. Of a spent store only the members are.
  pub record IsIn (held : K → Durable → Type 0) (holds : I → Durable → Type 0) (store : Store K J I an g s d) (w : World) : Type 0 where
    pub seated : AreSeated (λ m seat x. HasMember held holds store.schema (length store.seats.items) m seat x) store.seats.items w.nodes
    pub under_way : (IsSpent store.scribe → ⊥) → AreUnderWay store.queue.items store.sent w.sent

  -- a store is the run of these events from what its databases held when it was opened
  abbrev pub IsRunOf : (held : K → Durable → Type 0) (holds : I → Durable → Type 0) → List Node → List Event → Store K J I an g s d → Type 0
  IsRunOf held holds found events store = IsIn held holds store (run (language_of store.schema) (length store.seats.items) (opened found) events)

  -- the events of a store that went on from this world are what these lines of its journal record
  abbrev pub AreFiled : Store K J I an g s d → Store K J I an g s d → Lines → World → List Event → Type 0
  AreFiled old new lines w events = AreRecorded (language_of old.schema) (length old.seats.items) w (reading_in old.scribe) lines events (IsSpent new.scribe)

  -- A store was in this world, and is where events lead from there that these lines record. Each outcome in the lines its member told in these
  -- events. Unless the store is spent, what a step told for the first time stands in its end, and each end is that of the step before it.
  pub record WentOn (held : K → Durable → Type 0) (holds : I → Durable → Type 0) (lines : Lines) (old new : Store K J I an g s d) (w : World) : Type 0 where
    pub world : World
    pub goes : Goes (language_of old.schema) (length old.seats.items) w world
    pub events_are : AreFiled old new lines w goes.events
    pub outcomes_are : AreToldIn goes.gave (lines_in lines)
    pub written : (IsSpent new.scribe → ⊥) → AreWritten old.noted goes.gave (lines_in lines) new.noted
    pub is_in : IsIn held holds new world
    pub hears : Hears (WasTold goes.gave) old.watched new.watched

  -- the run of a store goes on, and lines came to its journal that record it
  pub record GoesOn (contents : J → Option (List ℕ)) (honest : K → Type 0) (held : K → Durable → Type 0) (holds : I → Durable → Type 0) (old new : Store K J I an g s d) : Type 0 where
    pub schema : new.schema ≡ old.schema
    pub count : length new.seats.items ≡ length old.seats.items
    pub lines : Lines
    pub journal : IsContinued contents old.scribe new.scribe lines
    pub clean : AreClean honest holds new → AreClean honest holds old
    pub went : AreClean honest holds new → (w : World) → IsIn held holds old w → WentOn held holds lines old new w

  -- The run goes on from each world of which this holds, by events that gave what this holds of. Lines that were in the buffer before, and
  -- then those that came to the journal, record it.
  pub record GoesOnFrom (contents : J → Option (List ℕ)) (honest : K → Type 0) (held : K → Durable → Type 0) (holds : I → Durable → Type 0) (begun : List Line) (from : World → Type 0) (gives : List (List Output) → Type 0) (old new : Store K J I an g s d) : Type 0 where
    pub schema : new.schema ≡ old.schema
    pub count : length new.seats.items ≡ length old.seats.items
    pub lines : Lines
    pub journal : IsContinued contents old.scribe new.scribe lines
    pub clean : AreClean honest holds new → AreClean honest holds old
    pub went : AreClean honest holds new → (w : World) → IsIn held holds old w → from w → (on : WentOn held holds (with_begun begun lines) old new w) × gives on.goes.gave

  -- the same where no such lines were in the buffer
  abbrev pub GoesOnSo : (contents : J → Option (List ℕ)) (honest : K → Type 0) (held : K → Durable → Type 0) (holds : I → Durable → Type 0) (from : World → Type 0) (gives : List (List Output) → Type 0) (old new : Store K J I an g s d) → Type 0
  GoesOnSo contents honest held holds from gives old new = GoesOnFrom contents honest held holds [] from gives old new

  -- the member is stopped, if it is up; nothing came to the journal
  pub record Stops (honest : K → Type 0) (held : K → Durable → Type 0) (holds : I → Durable → Type 0) (m : ℕ) (old new : Store K J I an g s d) : Type 0 where
    pub schema : new.schema ≡ old.schema
    pub count : length new.seats.items ≡ length old.seats.items
    pub scribe : new.scribe ≡ old.scribe
    pub noted : new.noted ≡ old.noted
    pub watched : new.watched ≡ old.watched
    pub clean : AreClean honest holds new → AreClean honest holds old
    pub went : AreClean honest holds new → (w : World) → IsIn held holds old w → IsIn held holds new (stops w m (nth w.nodes m))

  -- the member is started, if it is not up; nothing came to the journal
  pub record StartsOne (honest : K → Type 0) (held : K → Durable → Type 0) (holds : I → Durable → Type 0) (m : ℕ) (old new : Store K J I an g s d) : Type 0 where
    pub schema : new.schema ≡ old.schema
    pub count : length new.seats.items ≡ length old.seats.items
    pub scribe : new.scribe ≡ old.scribe
    pub noted : new.noted ≡ old.noted
    pub watched : new.watched ≡ old.watched
    pub clean : AreClean honest holds new → AreClean honest holds old
    pub went : AreClean honest holds new → (w : World) → IsIn held holds old w → IsIn held holds new (starts w m (nth w.nodes m))

  -- ---- the parts of a step

  -- The members stay. These messages come under way, but in a spent store, and this is heard. What came to the journal records no event, and
  -- where it ends steps, has what members say. Where nobody says anything the entry up to which outcomes are written stays.
  pub record PublishesSo (contents : J → Option (List ℕ)) (says : ℕ → List Noted → Type 0) (old new : Store K J I an g s d) (messages : List Message) (told : List Told) : Type 0 where
    pub schema : new.schema ≡ old.schema
    pub seats : new.seats.items ≡ old.seats.items
    pub journal : IsKeptSo contents says old.scribe new.scribe
    pub spent : IsSpent old.scribe → IsSpent new.scribe
    pub letters : (IsSpent new.scribe → ⊥) → (sent : List Message) → AreUnderWay old.queue.items old.sent sent → AreUnderWay new.queue.items new.sent (sent ++ messages)
    pub hears : Hears (IsAmong told) old.watched new.watched
    pub noted : (IsSpent new.scribe → ⊥) → ((m : ℕ) (outcomes : List Noted) → says m outcomes → ⊥) → new.noted ≡ old.noted

  -- the same where no end of a step came to the journal
  abbrev pub Publishes : (contents : J → Option (List ℕ)) (old new : Store K J I an g s d) (messages : List Message) (told : List Told) → Type 0
  Publishes contents old new messages told = PublishesSo contents NobodySays old new messages told

  -- the same where a member ended a step: unless the store is spent, that is written with all that it told for the first time
  pub record EndsStep (contents : J → Option (List ℕ)) (m : ℕ) (old new : Store K J I an g s d) (messages : List Message) (told : List Told) : Type 0 where
    pub publishes : PublishesSo contents (OneSays m told) old new messages told
    pub written : (IsSpent new.scribe → ⊥) → IsEnd m old.noted told (lines_in publishes.journal.0) new.noted

  -- the seat of one member is another; nothing else is, but for the journal, to which lines came that record no event and end no step
  pub record Changes (contents : J → Option (List ℕ)) (honest : K → Type 0) (holds : I → Durable → Type 0) (old new : Store K J I an g s d) (at : ℕ) (before after : Seat K J I an g s d) : Type 0 where
    pub there : slice_get old.seats.items at ≡ Some before
    pub seats : new.seats.items ≡ slice_set old.seats.items at after
    pub schema : new.schema ≡ old.schema
    pub journal : IsKeptOn contents old.scribe new.scribe
    pub queue : new.queue ≡ old.queue
    pub sent : new.sent ≡ old.sent
    pub noted : new.noted ≡ old.noted
    pub watched : new.watched ≡ old.watched
    pub clean : IsClean honest holds after → IsClean honest holds before

  -- The member at a seat took a step with this result. Nothing else was stored, or a block went to the journal's device.
  pub record HasStepped (contents : J → Option (List ℕ)) (honest : K → Type 0) (held : K → Durable → Type 0) (holds : I → Durable → Type 0) (old new : Store K J I an g s d) (at : ℕ) (work : Work) (result : Result Out Fault) : Type 0 where
    pub before : Seat K J I an g s d
    pub after : Seat K J I an g s d
    pub changes : Changes contents honest holds old new at before after
    pub steps : IsClean honest holds after → (x : Node) → HasMember held holds old.schema (length old.seats.items) (at + 1) before x →
        (y : Node) × (HasMember held holds old.schema (length old.seats.items) (at + 1) after y × StepsTo old.schema (length old.seats.items) (at + 1) work x y result)
    pub stored : changes.journal.0.groups ≡ [] → KeepsStored honest held holds work result before after

  -- the same with a result that nobody looks at
  abbrev pub MayHaveStepped : (contents : J → Option (List ℕ)) (honest : K → Type 0) (held : K → Durable → Type 0) (holds : I → Durable → Type 0) (old new : Store K J I an g s d) (at : ℕ) (work : Work) → Type 0
  MayHaveStepped contents honest held holds old new at work = (result : Result Out Fault) × HasStepped contents honest held holds old new at work result

  -- work is what this job is in this world, where the store is not spent
  abbrev pub IsBrought : Store K J I an g s d → ℕ → Job → Work → World → Type 0
  IsBrought store m job work w = (IsSpent store.scribe → ⊥) → (is_for w m job ≡ true) ×
      ((x : Node) → effect (language_of store.schema) (length store.seats.items) w m job x ≡ works store.schema (length store.seats.items) m work x)

  -- a letter is under way there
  abbrev pub HasSent : Store K J I an g s d → Letter → World → Type 0
  HasSent store letter w = (IsSpent store.scribe → ⊥) → nth w.sent letter.number ≡ Some letter.message
