-- No majority of a group ever gets stuck: from wherever a run has come, some of what its members do by themselves leads to a
-- leader among them and to one applied log, and a request that is handed in then is applied by all of them, whatever the other
-- members are. That messages are delivered in the end, and which, is nobody's promise: this says only that the way is open.
-- `live` is the majority, as a test on members.
use Rattle.std.specs.Prelude.{◌≡◌, ℕ, zero, suc, ℤ, pos, ◌+◌, ◌*◌, ◌<◌, ◌≤◌, ◌↔◌, Bool, true, false, Some, None, Ok, List, [], ◌∷◌, ◌++◌, length, Contains}
use Rattle.model.specs.Lists.{nth, IsBeginning}
use Rattle.model.specs.Transactions.{Language, Statement}
use Rattle.model.specs.Stamps.{TIME_LAST}
use Rattle.model.specs.declared.entry.Entry.{Entry}
use Rattle.model.specs.declared.entry.Told.{Told}
use Rattle.model.specs.declared.entry.Request.{Request}
use Rattle.model.specs.Logs.{least_over, outcome, before_index}
use Rattle.model.specs.Members.{Node, applied, closed_time, is_majority, last_term}
use Rattle.model.specs.Steps.{TERM_LAST, LOG_LIMIT}
use Rattle.model.specs.declared.message.Input.{Input}
use Rattle.model.specs.declared.message.Input.TheVariants.{Timeout, Beat, Close, Submit, Floor}
use Rattle.model.specs.declared.message.Message.{Message}
use Rattle.model.specs.declared.message.Role.TheVariants.{Leader}
use Rattle.model.specs.Agreement.{decided}
use Rattle.model.specs.Worlds.{World, Event, Output, Hand, Deliver, Stop, Start, Torn, Ask, new_world, happens, run, Gives}
use Rattle.model.specs.Worlds.Output.{Applied}

-- a timer of a member goes off
abbrev pub is_timer : Input → Bool
is_timer Timeout = true
is_timer Beat = true
is_timer (Close reading) = false
is_timer (Floor reading) = false
is_timer (Submit reading request) = false

-- nothing goes wrong, and only the majority does anything, while clocks show the reading: one of them starts, a timer of one goes off, or a
-- message from one to another is delivered
abbrev pub IsMild : (ℕ → Bool) → ℤ → World → Event → Type 0
IsMild live reading w (Hand m input) = (live m ≡ true) × (is_timer input ≡ true)
IsMild live reading w (Deliver k shown) = (message : Message) × (nth w.sent k ≡ Some message) × (live message.sender ≡ true) × (live message.addressee ≡ true) × (shown ≡ reading)
IsMild live reading w (Stop m) = ⊥
IsMild live reading w (Start m) = live m ≡ true
IsMild live reading w (Torn m job left) = ⊥
IsMild live reading w (Ask m q) = ⊥

-- the i-th event, counted from 0, finds the clocks at the i-th reading
abbrev pub AllMild : Language → ℕ → (ℕ → Bool) → (ℕ → ℤ) → World → List Event → Type 0
AllMild language n live clock w [] = Unit {0}
AllMild language n live clock w (e ∷ es) = IsMild live (clock 0) w e × AllMild language n live (λ i. clock (suc i)) (happens language n w e) es

-- two terms and two instants are left, and the log has at most k entries
pub record RoomAt (k : ℕ) (x : Node) : Type 0 where
  pub terms : x.term + 2 ≤ TERM_LAST
  pub instants : least_over x.floor x.log + 1 ≤ TIME_LAST
  pub entries : length x.log ≤ k

abbrev pub Room : (ℕ → Bool) → ℕ → World → Type 0
Room live k w = (k + 2 ≤ LOG_LIMIT) × ((m : ℕ) (x : Node) → live m ≡ true → nth w.nodes m ≡ Some x → RoomAt k x)

-- so many mild events, at most, lead to P, while clocks show these readings
pub record Leads (language : Language) (n : ℕ) (live : ℕ → Bool) (clock : ℕ → ℤ) (most : ℕ) (w : World) (P : World → Type 0) : Type 0 where
  pub events : List Event
  pub mild : AllMild language n live clock w events
  pub few : length events ≤ most
  pub there : P (run language n w events)

-- ---- all is well

-- member m is up, it leads or follows, and has applied the whole list
pub record IsInStep (leader term : ℕ) (list : List Entry) (m : ℕ) (x : Node) : Type 0 where
  pub up : x.up ≡ true
  pub in_term : x.term ≡ term
  pub leads : (x.role ≡ Leader) ↔ (m ≡ leader)
  pub has : x.log ≡ list
  pub has_applied : applied x ≡ list

-- all of the majority are up, one of them leads, and all have its log and have applied it
pub record IsWell (n : ℕ) (live : ℕ → Bool) (leader : ℕ) (list : List Entry) (w : World) : Type 0 where
  pub first : 0 < leader
  pub last : leader ≤ n
  pub among : live leader ≡ true
  pub term : ℕ
  pub member : (m : ℕ) → 0 < m → m ≤ n → live m ≡ true → (x : Node) × (nth w.nodes m ≡ Some x) × IsInStep leader term list m x

-- where all is well, what is decided is the leader's log: nothing that was decided is lost, and nothing waits
abbrev pub WellIsDecided : Language → ℕ → World → Type 0
WellIsDecided language n outset = (events : List Event) (live : ℕ → Bool) (leader : ℕ) (list : List Entry) → is_majority n live ≡ true →
    IsWell n live leader list (run language n outset events) → decided language n outset events ≡ list

-- the instant t is closed at each of the majority
abbrev pub ClosedTo : (ℕ → Bool) → ℕ → World → Type 0
ClosedTo live t w = (m : ℕ) (x : Node) → live m ≡ true → nth w.nodes m ≡ Some x → (c : ℕ) × (closed_time x ≡ Some c) × (t ≤ c)

pub record WellTo (n : ℕ) (live : ℕ → Bool) (t : ℕ) (w : World) : Type 0 where
  pub leader : ℕ
  pub list : List Entry
  pub well : IsWell n live leader list w
  pub closed : ClosedTo live t w

-- how many events lead a majority of n members, with at most k entries in a log, to where all is well
abbrev pub enough : ℕ → ℕ → ℕ
enough n k = n * (6 * k + 15) + 9

-- a clock shows an instant from t on, and not the last
abbrev pub IsFrom : ℕ → ℤ → Type 0
IsFrom t reading = (u : ℕ) × (reading ≡ pos u) × (t ≤ u) × (u < TIME_LAST)

-- from wherever a run has come, whatever clocks show from t on, mild events lead to where all is well, and the instant t is closed
abbrev pub NeverStuck : Language → ℕ → World → Type 0
NeverStuck language n outset = (events : List Event) (live : ℕ → Bool) (clock : ℕ → ℤ) (t k : ℕ) → 2 ≤ n → is_majority n live ≡ true → ((i : ℕ) → IsFrom t (clock i)) → Room live k (run language n outset events) →
    Leads language n live clock (enough n k) (run language n outset events) (WellTo n live t)

-- a clock does not show the last instant
abbrev pub IsNotLast : ℤ → Type 0
IsNotLast reading = reading ≡ pos TIME_LAST → ⊥

-- ---- no less than a majority

-- a member that has not heard of anything, nor stood for election
pub record IsNew (x : Node) : Type 0 where
  pub term : x.term ≡ 0
  pub vote : x.vote ≡ None

-- as long as all but a minority are new, nobody leads, and nothing is decided, whatever the minority do
abbrev pub MajorityNeeded : Language → ℕ → Type 0
MajorityNeeded language n = (events : List Event) (live : ℕ → Bool) → is_majority n live ≡ false → ((m : ℕ) (x : Node) → live m ≡ false → nth (run language n (new_world n) events).nodes m ≡ Some x → IsNew x) →
    ((m : ℕ) (x : Node) → nth (run language n (new_world n) events).nodes m ≡ Some x → x.role ≡ Leader → ⊥) × (decided language n (new_world n) events ≡ [])

-- ---- a power cut

-- each member is stopped, wherever it is up
abbrev pub stop_all : ℕ → List Event
stop_all zero = []
stop_all (suc n) = Stop (suc n) ∷ stop_all n

-- after it mild events lead a majority that had room to where all is well, and what was decided before begins the log there
abbrev pub Restarts : Language → ℕ → World → Type 0
Restarts language n outset = (events : List Event) (live : ℕ → Bool) (clock : ℕ → ℤ) (k : ℕ) → 2 ≤ n → is_majority n live ≡ true → ((i : ℕ) → IsNotLast (clock i)) → Room live k (run language n outset events) →
    Leads language n live clock (enough n k) (run language n outset (events ++ stop_all n)) (λ w. (leader : ℕ) × (list : List Entry) × IsWell n live leader list w × IsBeginning (decided language n outset events) list)

-- ---- a floor

-- from wherever all is well, with an entry of the leader's own term for the last, once the leader was asked for a floor mild events lead to
-- where the instant is closed, and no log has grown
abbrev pub WellCloses : Language → ℕ → World → Type 0
WellCloses language n outset = (events : List Event) (live : ℕ → Bool) (clock : ℕ → ℤ) (leader t : ℕ) (list : List Entry) (x : Node) → 2 ≤ n → is_majority n live ≡ true →
    (well : IsWell n live leader list (run language n outset events)) → nth (run language n outset events).nodes leader ≡ Some x → last_term list ≡ well.term → least_over x.floor list ≤ TIME_LAST → t ≤ TIME_LAST →
    Leads language n live clock (3 * n) (run language n (run language n outset events) (Hand leader (Floor (pos t)) ∷ [])) (λ v. IsWell n live leader list v × ClosedTo live t v)

-- all is well, and once the leader was asked for a floor, mild events lead to where the instant is closed, and no log has grown
pub record Closes (language : Language) (n : ℕ) (live : ℕ → Bool) (t : ℕ) (w : World) : Type 0 where
  pub leader : ℕ
  pub list : List Entry
  pub well : IsWell n live leader list w
  pub closed : (clock : ℕ → ℤ) → Leads language n live clock (3 * n) (run language n w (Hand leader (Floor (pos t)) ∷ [])) (λ v. IsWell n live leader list v × ClosedTo live t v)

-- from wherever a run has come, mild events lead to where each instant can be closed without an entry
abbrev pub ClosesQuietly : Language → ℕ → World → Type 0
ClosesQuietly language n outset = (events : List Event) (live : ℕ → Bool) (clock : ℕ → ℤ) (k : ℕ) → 2 ≤ n → is_majority n live ≡ true → ((i : ℕ) → IsNotLast (clock i)) → Room live k (run language n outset events) →
    Leads language n live clock (enough n k) (run language n outset events) (λ w. (t : ℕ) → t ≤ TIME_LAST → Closes language n live t w)

-- ---- a request

-- what is told of a request that is the list's last entry
abbrev pub told_last : Language → List Entry → Entry → Request → Told
told_last language list e r = record { index = length list; client = r.client; number = r.number; outcome = outcome language e.stamp r (before_index list (length list)) }

-- in the course of the events member m tells this
pub record Tells (language : Language) (n : ℕ) (w : World) (events : List Event) (m : ℕ) (told : Told) : Type 0 where
  pub early : List Event
  pub event : Event
  pub late : List Event
  pub out : List Output
  pub at : early ++ event ∷ late ≡ events
  pub gives : Gives language n (run language n w early) event out
  pub tells : Contains out (Applied m told)

-- mild events lead to where all is well with the request for one entry more, and each has told of it, and all the same
pub record Served (language : Language) (n : ℕ) (live : ℕ → Bool) (clock : ℕ → ℤ) (most leader : ℕ) (list : List Entry) (request : Request) (w : World) : Type 0 where
  pub entry : Entry
  pub asks : entry.request ≡ Some request
  pub way : Leads language n live clock most w (IsWell n live leader (list ++ entry ∷ []))
  pub told : (m : ℕ) → 0 < m → m ≤ n → live m ≡ true → Tells language n w way.events m (told_last language (list ++ entry ∷ []) entry request)

-- from wherever all is well, and the leader has room for an entry, a request that can be read and is handed to it is served
abbrev pub WellServes : Language → ℕ → World → Type 0
WellServes language n outset = (events : List Event) (live : ℕ → Bool) (clock : ℕ → ℤ) (leader : ℕ) (list : List Entry) (x : Node) (reading : ℤ) (request : Request) (statements : List Statement) → 2 ≤ n → is_majority n live ≡ true →
    IsWell n live leader list (run language n outset events) → nth (run language n outset events).nodes leader ≡ Some x → length list < LOG_LIMIT → least_over x.floor list ≤ TIME_LAST → language.reads request.text ≡ Ok statements →
    Served language n live clock (n * (6 * length list + 18) + 3) leader list request (run language n (run language n outset events) (Hand leader (Submit reading request) ∷ []))

-- all is well, and once the request was handed to the leader, it is served
pub record Serves (language : Language) (n : ℕ) (live : ℕ → Bool) (most : ℕ) (reading : ℤ) (request : Request) (w : World) : Type 0 where
  pub leader : ℕ
  pub list : List Entry
  pub well : IsWell n live leader list w
  pub served : (clock : ℕ → ℤ) → Served language n live clock most leader list request (run language n w (Hand leader (Submit reading request) ∷ []))

-- mild events lead from here, if a majority has room left, to where a request that can be read is served
abbrev pub CanServe : Language → ℕ → World → Type 0
CanServe language n w = (live : ℕ → Bool) (clock : ℕ → ℤ) (k : ℕ) (reading : ℤ) (request : Request) (statements : List Statement) → 2 ≤ n → is_majority n live ≡ true →
    ((i : ℕ) → IsNotLast (clock i)) → Room live k w → language.reads request.text ≡ Ok statements →
    Leads language n live clock (enough n k) w (Serves language n live (enough n k + 3 * n) reading request)

-- wherever a run has come
abbrev pub AlwaysServes : Language → ℕ → World → Type 0
AlwaysServes language n outset = (events : List Event) → CanServe language n (run language n outset events)
