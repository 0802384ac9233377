-- One list explains all that a run gives. It is said here without a word of how the members come to agree: whatever is lost,
-- late, repeated or cut short, all that any of them tells and answers is what a single database says that executes one list of
-- requests, in the order of the list. An entry of the list is an instant, and mostly a request, which is executed at it; one
-- that comes again is executed once. Events are counted from 1, and the k-th event gives the k-th list of outputs.
use Rattle.std.specs.Prelude.{◌≡◌, ◌≢◌, ℕ, ◌<◌, ◌≤◌, Option, Some, None, IsOk, List, ◌++◌, Contains}
use Rattle.model.specs.Lists.{nth, IsBeginning}
use Rattle.model.specs.Transactions.{Language}
use Rattle.model.specs.declared.entry.Entry.{Entry}
use Rattle.model.specs.declared.entry.Request.{Request}
use Rattle.model.specs.declared.entry.Told.{Told}
use Rattle.model.specs.Logs.{IsStamped}
use Rattle.model.specs.Answers.{SystemTime, Select, Answer, IsAnswer, read_at}
use Rattle.fault.specs.declared.refusal.Refusal.{Refusal}
use Rattle.fault.specs.declared.refusal.Refusal.TheVariants.{NotClosed}
use Rattle.model.specs.declared.event.Job.{Job}
use Rattle.model.specs.declared.event.Left.{Left}
use Rattle.model.specs.Worlds.{World, Event, Stop, Torn, Ask, Output, GivesAll}
use Rattle.model.specs.Worlds.Output.{Applied, Answered, Refused}
use Rattle.model.specs.Agreement.{IsTold, decided}
use Rattle.onelist.specs.Order.{HasRequest, Brings}

-- ---- events and what they gave

-- the k-th event gave this
abbrev pub Gave : List (List Output) → ℕ → Output → Type 0
Gave outs k output = (out : List Output) × (nth outs k ≡ Some out) × Contains out output

-- the k-th event asked the member, and it answered so
abbrev pub IsAnswered : List Event → List (List Output) → ℕ → ℕ → Select → Answer → Type 0
IsAnswered events outs k m q a = (nth events k ≡ Some (Ask m q)) × Gave outs k (Answered m a)

-- the k-th event asked the member, which put the question off: it refused it as not closed
abbrev pub IsPutOff : List Event → List (List Output) → ℕ → ℕ → Select → Type 0
IsPutOff events outs k m q = (nth events k ≡ Some (Ask m q)) × ((closed : Option (List ℕ)) × Gave outs k (Refused m (NotClosed closed)))

-- the question has system time, and asks about an instant above this one
abbrev pub AsksPast : ℕ → Select → Type 0
AsksPast t q = (time : SystemTime) × (q.time ≡ Some time) × (t < time.last)

-- the k-th event submitted the request to a member
abbrev pub IsSubmitted : List Event → ℕ → Request → Type 0
IsSubmitted events k r = (m : ℕ) × (event : Event) × (nth events k ≡ Some event) × Brings r m event

-- no event before the k-th did
abbrev pub IsNew : List Event → ℕ → Request → Type 0
IsNew events k r = (j : ℕ) → j < k → IsSubmitted events j r → ⊥

-- the event stops the member, maybe in the midst of a step
pub data Stops (m : ℕ) : Event → Type 0 where
  Whole : Stops m (Stop m)
  CutShort : (job : Job) (left : Left) → Stops m (Torn m job left)

-- no event between the j-th and the k-th did
abbrev pub IsUnstopped : List Event → ℕ → ℕ → ℕ → Type 0
IsUnstopped events m j k = (i : ℕ) (event : Event) → j < i → i < k → nth events i ≡ Some event → Stops m event → ⊥

-- by the k-th event the member has told of the request at the index, and no `Stop` of it came since
abbrev pub HasTold : List Event → List (List Output) → ℕ → ℕ → ℕ → Type 0
HasTold events outs k m i =
    (j : ℕ) × (told : Told) × (j ≤ k) × Gave outs j (Applied m told) × (told.index ≡ i)
    × ((s : ℕ) → j < s → s < k → nth events s ≢ Some (Stop m))

-- ---- one list

-- Each request in the list was submitted, by an event of its own.
pub record WereSubmitted (events : List Event) (list : List Entry) : Type 0 where
  pub submitted : (r : Request) → HasRequest list r → (k : ℕ) × IsSubmitted events k r
  pub apart : (r s : Request) (R : HasRequest list r) (S : HasRequest list s) → (submitted r R).0 ≡ (submitted s S).0 → R.index ≡ S.index

-- The list explains what these events gave.
pub record Explains (language : Language) (events : List Event) (outs : List (List Output)) (list : List Entry) : Type 0 where
  -- 1. its instants rise
  pub stamped : IsStamped list
  -- 2. each request that a member told of stands in the list, with the outcome that was told
  pub told : (k m : ℕ) (told : Told) → Gave outs k (Applied m told) → IsTold language list told
  -- 3. each answer is the one that the list has; to a question without system time, AS OF the instant that the answer names
  pub answered : (k m : ℕ) (q : Select) (a : Answer) → IsAnswered events outs k m q a → IsAnswer language (read_at a.last q) list a
  -- 4. nothing in it is invented
  pub brought : WereSubmitted events list
  -- 5. and the event that submitted it was not refused
  pub unrefused : (r : Request) (R : HasRequest list r) (m : ℕ) (why : Refusal) → Gave outs (brought.submitted r R).0 (Refused m why) → ⊥
  -- 6. the text of each request in it spells a transaction
  pub reads : (r : Request) → HasRequest list r → IsOk (language.reads r.text)
  -- 7. a member that told of a request has told of each one before it, since it was last stopped
  pub told_whole : (k m : ℕ) (told : Told) (r : Request) (R : HasRequest list r) →
      Gave outs k (Applied m told) → R.index < told.index → HasTold events outs k m R.index
  -- 8. and one that answered, of each one whose instant is at most the one that the answer names
  pub answered_whole : (k m : ℕ) (q : Select) (a : Answer) (r : Request) (R : HasRequest list r) →
      IsAnswered events outs k m q a → R.entry.stamp ≤ a.last → HasTold events outs k m R.index

-- What began after something was told or answered stands after it.
pub record IsInOrder (language : Language) (events : List Event) (outs : List (List Output)) (list : List Entry) : Type 0 where
  -- 1. a request that is first submitted after a member told of another stands behind that one
  pub told_then_submitted : (k m : ℕ) (told : Told) (r : Request) (R : HasRequest list r) → Gave outs k (Applied m told) → IsNew events k r → told.index < R.index
  -- 2. one that is first submitted after a member answered has an instant above the one that the answer names
  pub answered_then_submitted : (k m : ℕ) (q : Select) (a : Answer) (r : Request) (R : HasRequest list r) → IsAnswered events outs k m q a → IsNew events k r → a.last < R.entry.stamp
  -- 3. a question without system time that a member answers after it told of a request, and was not stopped in between, is answered AS OF that request's instant or a later one
  pub told_then_asked : (j k m : ℕ) (told : Told) (T : IsTold language list told) (q : Select) (a : Answer) → j < k → Gave outs j (Applied m told) → IsAnswered events outs k m q a → q.time ≡ None →
      IsUnstopped events m j k → T.entry.stamp ≤ a.last
  -- 4. and after another answer AS OF the instant that this one names, or a later one
  pub answered_then_asked : (j k m : ℕ) (q r : Select) (a b : Answer) → j < k → IsAnswered events outs j m q a → IsAnswered events outs k m r b → r.time ≡ None → IsUnstopped events m j k → a.last ≤ b.last
  -- 5. a question that a member puts off after it told of a request, and was not stopped in between, asks about an instant above that request's
  pub told_then_put_off : (j k m : ℕ) (told : Told) (T : IsTold language list told) (q : Select) → j < k → Gave outs j (Applied m told) → IsPutOff events outs k m q → IsUnstopped events m j k → AsksPast T.entry.stamp q
  -- 6. and after an answer, above the instant that the answer names
  pub answered_then_put_off : (j k m : ℕ) (q r : Select) (a : Answer) → j < k → IsAnswered events outs j m q a → IsPutOff events outs k m r → IsUnstopped events m j k → AsksPast a.last r
  -- 7. from event to event a member tells of requests in their order, and of each once, until it is stopped
  pub told_then_told : (j k m : ℕ) (a b : Told) → j < k → Gave outs j (Applied m a) → Gave outs k (Applied m b) →
      IsUnstopped events m j k → a.index < b.index

-- The list explains, in order, all that these events gave.
abbrev pub IsExplainedBy : Language → ℕ → World → List Event → List Entry → Type 0
IsExplainedBy language n outset events list = (outs : List (List Output)) → GivesAll language n outset events outs → Explains language events outs list × IsInOrder language events outs list

-- Each run has one list that explains, in order, all that it gave; and where a run goes on, its list goes on.
pub record OneListExplains (language : Language) (n : ℕ) (outset : World) : Type 0 where
  pub list : List Event → List Entry
  pub explains : (events : List Event) → IsExplainedBy language n outset events (list events)
  pub goes_on : (early late : List Event) → IsBeginning (list early) (list (early ++ late))

-- The same of one run: its list goes on from one that explains all that its events up to any moment gave.
pub record IsExplained (language : Language) (n : ℕ) (outset : World) (events : List Event) : Type 0 where
  pub list : List Entry
  pub explains : IsExplainedBy language n outset events list
  pub goes_on : (early late : List Event) → early ++ late ≡ events → (before : List Entry) × IsExplainedBy language n outset early before × IsBeginning before list

-- What is decided is in the order in which the events told and answered.
abbrev pub IsDecidedInOrder : Language → ℕ → World → List Event → Type 0
IsDecidedInOrder language n outset events = (outs : List (List Output)) → GivesAll language n outset events outs → IsInOrder language events outs (decided language n outset events)
