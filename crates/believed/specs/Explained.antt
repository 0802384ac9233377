-- One list explains all that a run gives. It is said here without a word of how the members come to agree: whatever is lost,
-- late, repeated or cut short, all that any of them tells and answers is what a single database says that executes one list of
-- requests, in the order of the list. An entry of the list is an instant, and mostly a request, which is executed at it; one
-- that comes again is executed once. Events are counted from 1, and the k-th event gives the k-th list of outputs.
use Rattle.std.specs.Prelude.{◌≡◌, ◌≢◌, ◌⊎◌, ℕ, ℤ, ◌<◌, ◌≤◌, Option, Some, None, IsOk, List, [], ◌∷◌, ◌++◌, take, length, Contains}
use Rattle.model.specs.Lists.{nth, IsBeginning}
use Rattle.model.specs.Transactions.{Language}
use Rattle.model.specs.declared.entry.Entry.{Entry}
use Rattle.model.specs.declared.entry.Request.{Request}
use Rattle.model.specs.declared.entry.Told.{Told}
use Rattle.model.specs.Answers.{SystemTime, Select, Answer}
use Rattle.fault.specs.declared.refusal.Refusal.{Refusal}
use Rattle.fault.specs.declared.refusal.Refusal.TheVariants.{NotClosed}
use Rattle.model.specs.declared.message.Input.TheVariants.{Submit}
use Rattle.model.specs.declared.event.Job.{Job}
use Rattle.model.specs.declared.event.Job.TheVariants.{Local}
use Rattle.model.specs.declared.event.Left.{Left}
use Rattle.model.specs.declared.event.Left.TheVariants.{New}
use Rattle.model.specs.Worlds.{World, Event, Hand, Stop, Torn, Ask, Output}
use Rattle.model.specs.Worlds.Output.{Applied, Answered, Refused}
use Rattle.believed.specs.Logs.{IsStamped, told_at}
use Rattle.believed.specs.Answers.{IsAnswer}
use Rattle.believed.specs.Worlds.{GivesAll}
use Rattle.believed.specs.Agreement.{decided}

-- ---- events and what they gave

-- the k-th event gave this
abbrev pub Gave : List (List Output) → ℕ → Output → Type 0
Gave outs k output = (out : List Output) × (nth outs k ≡ Some out) × Contains out output

-- the k-th event asked the member, and it answered so
abbrev pub IsAnswered : List Event → List (List Output) → ℕ → ℕ → Select → Answer → Type 0
IsAnswered events outs k m q a = (nth events k ≡ Some (Ask m q)) × Gave outs k (Answered m a)

-- the k-th event asked the member, which put the question off: it refused it with 33, as not closed
abbrev pub IsPutOff : List Event → List (List Output) → ℕ → ℕ → Select → Type 0
IsPutOff events outs k m q = (nth events k ≡ Some (Ask m q)) × ((closed : Option (List ℕ)) × Gave outs k (Refused m (NotClosed closed)))

-- the question has system time, and asks about an instant above this one
abbrev pub AsksPast : ℕ → Select → Type 0
AsksPast t q = (time : SystemTime) × (q.time ≡ Some time) × (t < time.last)

-- the k-th event gave one answer of the member, or one refusal, and nothing else
abbrev pub Replies : List (List Output) → ℕ → ℕ → Type 0
Replies outs k m = ((a : Answer) × (nth outs k ≡ Some (Answered m a ∷ []))) ⊎ ((why : Refusal) × (nth outs k ≡ Some (Refused m why ∷ [])))

-- the k-th event submitted the request to a member: it was handed over, or its step was cut short once it was stored
abbrev pub IsSubmitted : List Event → ℕ → Request → Type 0
IsSubmitted events k r = (m : ℕ) × (reading : ℤ) ×
    ((nth events k ≡ Some (Hand m (Submit reading r))) ⊎ (nth events k ≡ Some (Torn m (Local (Submit reading r)) New)))

-- no event before the k-th did
abbrev pub IsNew : List Event → ℕ → Request → Type 0
IsNew events k r = (j : ℕ) → j < k → IsSubmitted events j r → ⊥

-- no event between the j-th and the k-th stopped the member, whole or in the midst of a step
abbrev pub IsUnstopped : List Event → ℕ → ℕ → ℕ → Type 0
IsUnstopped events m j k = (i : ℕ) → j < i → i < k → (nth events i ≢ Some (Stop m)) × ((job : Job) (left : Left) → nth events i ≢ Some (Torn m job left))

-- by the k-th event the member has told of the request at the index, and no `Stop` of it came since
abbrev pub HasTold : List Event → List (List Output) → ℕ → ℕ → ℕ → Type 0
HasTold events outs k m i =
    (j : ℕ) × (told : Told) × (j ≤ k) × Gave outs j (Applied m told) × (told.index ≡ i)
    × ((s : ℕ) → j < s → s < k → nth events s ≢ Some (Stop m))

-- ---- one list

-- at the index of the list stands this entry, for this request
abbrev pub IsEntry : List Entry → ℕ → Entry → Request → Type 0
IsEntry list i e r = (nth list i ≡ Some e) × (e.request ≡ Some r)

-- Each request in the list was submitted, by an event of its own.
pub record WereSubmitted (events : List Event) (list : List Entry) : Type 0 where
  pub by : (i : ℕ) (e : Entry) (r : Request) → IsEntry list i e r → (k : ℕ) × IsSubmitted events k r
  pub apart : (i j : ℕ) (d e : Entry) (r s : Request) (D : IsEntry list i d r) (E : IsEntry list j e s) → (by i d r D).0 ≡ (by j e s E).0 → i ≡ j

-- The list explains what these events gave.
pub record Explains (language : Language) (events : List Event) (outs : List (List Output)) (list : List Entry) : Type 0 where
  -- 1. its instants rise
  pub stamped : IsStamped list
  -- 2. each request that a member told of stands in the list, with the outcome that was told
  pub told : (k m : ℕ) (told : Told) → Gave outs k (Applied m told) → told_at language list told.index ≡ Some told
  -- 3. each answer is the one that the list has; to a question without system time, AS OF the instant that the answer names
  pub answered : (k m : ℕ) (q : Select) (a : Answer) → IsAnswered events outs k m q a → IsAnswer language q a.last list a
  -- 4. nothing in it is invented
  pub brought : WereSubmitted events list
  -- 5. and the event that submitted it was not refused
  pub unrefused : (i : ℕ) (e : Entry) (r : Request) (E : IsEntry list i e r) (m : ℕ) (why : Refusal) → Gave outs (brought.by i e r E).0 (Refused m why) → ⊥
  -- 6. the text of each request in it spells a transaction
  pub reads : (i : ℕ) (e : Entry) (r : Request) → IsEntry list i e r → IsOk (language.reads r.text)
  -- 7. a member that told of a request has told of each one before it, since it was last stopped
  pub told_whole : (k m i : ℕ) (told : Told) (e : Entry) (r : Request) →
      Gave outs k (Applied m told) → IsEntry list i e r → i < told.index → HasTold events outs k m i
  -- 8. and one that answered, of each one whose instant is at most the one that the answer names
  pub answered_whole : (k m i : ℕ) (q : Select) (a : Answer) (e : Entry) (r : Request) →
      IsAnswered events outs k m q a → IsEntry list i e r → e.stamp ≤ a.last → HasTold events outs k m i

-- What began after something was told or answered stands after it.
pub record IsInOrder (events : List Event) (outs : List (List Output)) (list : List Entry) : Type 0 where
  -- 1. a request that is first submitted after a member told of another stands behind that one
  pub told_then_submitted : (k m i : ℕ) (told : Told) (e : Entry) (r : Request) →
      Gave outs k (Applied m told) → IsNew events k r → IsEntry list i e r → told.index < i
  -- 2. one that is first submitted after a member answered has an instant above the one that the answer names
  pub answered_then_submitted : (k m i : ℕ) (q : Select) (a : Answer) (e : Entry) (r : Request) →
      IsAnswered events outs k m q a → IsNew events k r → IsEntry list i e r → a.last < e.stamp
  -- 3. a question without system time that a member answers after it told of a request, and was not stopped in between, is answered
  -- AS OF that request's instant or a later one
  pub told_then_asked : (j k m : ℕ) (told : Told) (e : Entry) (q : Select) (a : Answer) → j < k → IsUnstopped events m j k → q.time ≡ None →
      Gave outs j (Applied m told) → IsAnswered events outs k m q a → nth list told.index ≡ Some e → e.stamp ≤ a.last
  -- 4. and after another answer AS OF the instant that this one names, or a later one
  pub answered_then_asked : (j k m : ℕ) (q r : Select) (a b : Answer) → j < k → IsUnstopped events m j k → r.time ≡ None →
      IsAnswered events outs j m q a → IsAnswered events outs k m r b → a.last ≤ b.last
  -- 5. a question that a member puts off after it told of a request, and was not stopped in between, asks about an instant above
  -- that request's
  pub told_then_put_off : (j k m : ℕ) (told : Told) (e : Entry) (q : Select) → j < k → IsUnstopped events m j k →
      Gave outs j (Applied m told) → IsPutOff events outs k m q → nth list told.index ≡ Some e → AsksPast e.stamp q
  -- 6. and after an answer, above the instant that the answer names
  pub answered_then_put_off : (j k m : ℕ) (q r : Select) (a : Answer) → j < k → IsUnstopped events m j k →
      IsAnswered events outs j m q a → IsPutOff events outs k m r → AsksPast a.last r
  -- 7. from event to event a member tells of requests in their order, and of each once, until it is stopped
  pub told_then_told : (j k m : ℕ) (a b : Told) → j < k → IsUnstopped events m j k →
      Gave outs j (Applied m a) → Gave outs k (Applied m b) → a.index < b.index

-- The list explains, in order, all that these events gave.
abbrev pub IsExplainedBy : Language → ℕ → World → List Event → List Entry → Type 0
IsExplainedBy language n outset events list =
    (outs : List (List Output)) → GivesAll language n outset events outs → Explains language events outs list × IsInOrder events outs list

-- One list explains the run, and it goes on from one that explains all that its events up to any moment gave.
pub record IsExplained (language : Language) (n : ℕ) (outset : World) (events : List Event) : Type 0 where
  pub list : List Entry
  pub explains : IsExplainedBy language n outset events list
  pub goes_on : (early late : List Event) → early ++ late ≡ events → (start : List Entry) × IsExplainedBy language n outset early start × IsBeginning start list

-- ---- what was given

-- An explanation of what these events gave, a list of outputs for each, in a group of n members.
pub record Explanation (language : Language) (n : ℕ) (events : List Event) (given : List (List Output)) : Type 0 where
  pub each : length given ≡ length events
  -- the list that explains it, in order
  pub list : List Entry
  pub explains : Explains language events given list
  pub order : IsInOrder events given list
  -- it goes on from one that explains what the first k of the events gave
  pub goes_on : (k : ℕ) → (start : List Entry) × Explains language (take k events) (take k given) start × IsInOrder (take k events) (take k given) start × IsBeginning start list
  -- each question to a member is answered or refused
  pub replies : (k m : ℕ) (q : Select) → nth events k ≡ Some (Ask m q) → 1 ≤ m → m ≤ n → Replies given k m

-- there is one
abbrev pub IsExplainedSo : Language → ℕ → List Event → List (List Output) → Type 0
IsExplainedSo language n events given = ∥ Explanation language n events given ∥₁

-- ---- what is decided

-- What is decided is in the order in which the events told and answered.
abbrev pub IsDecidedInOrder : Language → ℕ → World → List Event → Type 0
IsDecidedInOrder language n outset events =
    (outs : List (List Output)) → GivesAll language n outset events outs → IsInOrder events outs (decided language n outset events)
