-- Requests in every run from an outset: what stands in a log was submitted, and what is first submitted after an outcome was
-- told comes after it. And what one member answers, one question after another, does not go back. A moment of a run is a
-- beginning of its list of events.
use Rattle.std.specs.Prelude.{◌≡◌, ℕ, ℤ, ◌<◌, ◌≤◌, Some, None, Ok, List, [], ◌∷◌, ◌++◌, length, Contains}
use Rattle.model.specs.Lists.{nth}
use Rattle.model.specs.Transactions.{Language}
use Rattle.model.specs.declared.entry.Entry.{Entry}
use Rattle.model.specs.declared.entry.Request.{Request}
use Rattle.model.specs.declared.entry.Told.{Told}
use Rattle.model.specs.Members.{Node}
use Rattle.model.specs.Steps.{entries_of}
use Rattle.model.specs.Answers.{Select, Answer}
use Rattle.model.specs.declared.message.Message.{Message}
use Rattle.model.specs.declared.message.Input.TheVariants.{Submit}
use Rattle.model.specs.declared.event.Job.TheVariants.{Local}
use Rattle.model.specs.declared.event.Left.TheVariants.{New}
use Rattle.model.specs.Worlds.{World, Event, Hand, Torn, Ask, Output, run, Gives}
use Rattle.model.specs.Worlds.Output.{Applied, Answered}
use Rattle.model.specs.Agreement.{decided}
use Rattle.safety.specs.Floors.{WasAt, StaysUp}

-- ---- requests

-- an entry of the list is this request: the same client, number and text
pub record HasRequest (list : List Entry) (r : Request) : Type 0 where
  pub index : ℕ
  pub entry : Entry
  pub at : nth list index ≡ Some entry
  pub asks : entry.request ≡ Some r

-- the event submits the request to the member: it is handed over, or its step is cut short once it is stored
pub data Brings (r : Request) (m : ℕ) : Event → Type 0 where
  Whole : (reading : ℤ) → Brings r m (Hand m (Submit reading r))
  CutShort : (reading : ℤ) → Brings r m (Torn m (Local (Submit reading r)) New)

-- up to this moment the request stood in nobody's log
abbrev pub IsNowhere : Language → ℕ → World → List Event → Request → Type 0
IsNowhere language n outset events r = (m : ℕ) (x : Node) → WasAt language n outset events m x → HasRequest x.log r → ⊥

-- An event of the run brought the request to a member: up to then it stood in nobody's log, and after the event it stands in the
-- member's.
pub record WasBrought (language : Language) (n : ℕ) (outset : World) (events : List Event) (r : Request) : Type 0 where
  pub early : List Event
  pub late : List Event
  pub event : Event
  pub moment : early ++ event ∷ late ≡ events
  pub member : ℕ
  pub brings : Brings r member event
  pub nowhere : IsNowhere language n outset early r
  pub node : Node
  pub at : nth (run language n outset (early ++ event ∷ [])).nodes member ≡ Some node
  pub stands : HasRequest node.log r

-- each request that is decided was brought by an event of the run
abbrev pub NothingInvented : Language → ℕ → World → Type 0
NothingInvented language n outset = (events : List Event) (r : Request) → HasRequest (decided language n outset events) r → WasBrought language n outset events r

-- and so was each request that stands in a member's log
abbrev pub NoLogInvented : Language → ℕ → World → Type 0
NoLogInvented language n outset = (events : List Event) (m : ℕ) (x : Node) (r : Request) → nth (run language n outset events).nodes m ≡ Some x → HasRequest x.log r → WasBrought language n outset events r

-- and each that an Append carries which was ever sent
abbrev pub NothingSentInvented : Language → ℕ → World → Type 0
NothingSentInvented language n outset = (events : List Event) (k : ℕ) (p : Message) (r : Request) → nth (run language n outset events).sent k ≡ Some p → HasRequest (entries_of p.body) r → WasBrought language n outset events r

-- ---- entries

-- An event of the run made the entry that stands at this index, for its request: it brought the request to a member, at no moment
-- before did the entry stand there in anybody's log, and after the event the member's log ends with it.
pub record WasMade (language : Language) (n : ℕ) (outset : World) (events : List Event) (i : ℕ) (e : Entry) (r : Request) : Type 0 where
  pub early : List Event
  pub late : List Event
  pub event : Event
  pub moment : early ++ event ∷ late ≡ events
  pub member : ℕ
  pub brings : Brings r member event
  pub nowhere : (m : ℕ) (x : Node) → WasAt language n outset early m x → nth x.log i ≡ Some e → ⊥
  pub node : Node
  pub at : nth (run language n outset (early ++ event ∷ [])).nodes member ≡ Some node
  pub last : length node.log ≡ i
  pub stands : nth node.log i ≡ Some e

-- each entry that is decided, and has a request, was made by an event of the run
abbrev pub EachWasMade : Language → ℕ → World → Type 0
EachWasMade language n outset = (events : List Event) (i : ℕ) (e : Entry) (r : Request) → nth (decided language n outset events) i ≡ Some e → e.request ≡ Some r → WasMade language n outset events i e r

-- no event made two: a request stands in what is decided at most as often as it was brought
abbrev pub NoneMadeTwo : Language → ℕ → World → Type 0
NoneMadeTwo language n outset = (events : List Event) (i j : ℕ) (d e : Entry) (r s : Request) (M : WasMade language n outset events i d r) (N : WasMade language n outset events j e s) → length M.early ≡ length N.early → i ≡ j

-- ---- order

-- no event of the list submits the request
abbrev pub IsNewAfter : List Event → Request → Type 0
IsNewAfter events r = (m : ℕ) (event : Event) → Contains events event → Brings r m event → ⊥

-- a member told of this at the next event after `early`
pub record IsToldAfter (language : Language) (n : ℕ) (outset : World) (early late : List Event) (told : Told) : Type 0 where
  pub event : Event
  pub rest : List Event
  pub next : event ∷ rest ≡ late
  pub out : List Output
  pub gives : Gives language n (run language n outset early) event out
  pub member : ℕ
  pub tells : Contains out (Applied member told)

-- A request that no event had submitted when a member told of another stands after that one in all that is ever decided: its
-- index is greater, and so is its stamp.
abbrev pub InRealOrder : Language → ℕ → World → Type 0
InRealOrder language n outset = (early late : List Event) (told : Told) (r : Request) (j : ℕ) (d e : Entry) →
    IsToldAfter language n outset early late told → IsNewAfter early r →
    nth (decided language n outset (early ++ late)) told.index ≡ Some d → nth (decided language n outset (early ++ late)) j ≡ Some e → e.request ≡ Some r →
    (told.index < j) × (d.stamp < e.stamp)

-- The same of a request that stood in nobody's log when the member told, though a submit of it may have been refused.
abbrev pub LoggedInOrder : Language → ℕ → World → Type 0
LoggedInOrder language n outset = (early late : List Event) (told : Told) (r : Request) (j : ℕ) (d e : Entry) →
    IsToldAfter language n outset early late told → IsNowhere language n outset early r →
    nth (decided language n outset (early ++ late)) told.index ≡ Some d → nth (decided language n outset (early ++ late)) j ≡ Some e → e.request ≡ Some r →
    (told.index < j) × (d.stamp < e.stamp)

-- Where a member told that a request was accepted, and no event before had submitted one with the client and number of
-- another, the other, if it is ever told as accepted, is so at a later instant.
abbrev pub AcceptedInOrder : Language → ℕ → World → Type 0
AcceptedInOrder language n outset = (early late before after : List Event) (this other : Told) (t u : ℕ) →
    IsToldAfter language n outset early late this → IsToldAfter language n outset before after other → before ++ after ≡ early ++ late →
    ((r : Request) → r.client ≡ other.client → r.number ≡ other.number → IsNewAfter early r) →
    this.outcome ≡ Ok t → other.outcome ≡ Ok u → t < u

-- A request that no event had submitted when a member answered a question is stamped above the last instant that the answer names.
abbrev pub StampedAfterAnswers : Language → ℕ → World → Type 0
StampedAfterAnswers language n outset = (early late : List Event) (m : ℕ) (q : Select) (out : List Output) (a : Answer) (r : Request) (j : ℕ) (e : Entry) →
    Gives language n (run language n outset early) (Ask m q) out → Contains out (Answered m a) → IsNewAfter early r →
    nth (decided language n outset (early ++ late)) j ≡ Some e → e.request ≡ Some r → a.last < e.stamp

-- Where a member answered a question, and then one without system time, and stayed up in between, the later answer names no
-- smaller instant.
abbrev pub AnswersGoForward : Language → ℕ → World → Type 0
AnswersGoForward language n outset = (early late : List Event) (m : ℕ) (q r : Select) (out more : List Output) (a b : Answer) → r.time ≡ None →
    Gives language n (run language n outset early) (Ask m q) out → Contains out (Answered m a) → Gives language n (run language n outset (early ++ late)) (Ask m r) more → Contains more (Answered m b) →
    StaysUp language n outset early late m → a.last ≤ b.last

-- Where a member told that a request was accepted at an instant, and then answered a question without system time, and stayed
-- up in between, the answer names no smaller instant.
abbrev pub AnswersHaveWhatWasTold : Language → ℕ → World → Type 0
AnswersHaveWhatWasTold language n outset = (early late : List Event) (event : Event) (m t : ℕ) (told : Told) (q : Select) (out more : List Output) (a : Answer) → told.outcome ≡ Ok t → q.time ≡ None →
    Gives language n (run language n outset early) event out → Contains out (Applied m told) →
    Gives language n (run language n outset (early ++ event ∷ late)) (Ask m q) more → Contains more (Answered m a) →
    StaysUp language n outset (early ++ event ∷ []) late m → t ≤ a.last
