-- Events, outputs and a group as the definitions see them.
use Rattle.std.specs.Prelude.{◌≡◌, ℕ, ◌≤◌, ◌+◌, Bool, true, false, Option, Some, None, Result, Ok, Err, List, [], map, length, slice_get, option_map, option_and_then, if◌then◌else◌}
use Rattle.std.specs.List.{All}
use Rattle.std.specs.Option.{ForSome}
use Rattle.std.specs.declared.vec.Vec.{Vec}
use Rattle.std.specs.declared.alloc.Global.{Global}
use Rattle.fault.specs.declared.refusal.Refusal.{Refusal}
use Rattle.fault.specs.declared.refusal.Refusal.TheVariants.{NodeDown}
use Rattle.model.specs.declared.entry.Entry.{Entry}
use Rattle.model.specs.Lists.{nth}
use Rattle.model.specs.Transactions.{Language}
use Rattle.model.specs.Members.{Node, applied, closed_time}
use Rattle.model.specs.Steps.{Effect, Refuses}
use Rattle.model.specs.Worlds as model
use Rattle.model.specs.Worlds.{World, Event, Output, done, effect_gives, fresh, new_world, run, stopped, tells}
use Rattle.model.specs.Worlds.Output.{Sent, Applied, Refused, Answered}
use Rattle.keep.specs.Durable.{Durable, stored_in}
use Rattle.keep.specs.Log.{IsLog}
pub use Rattle.node.specs.Answered.{stored_of}
pub use Rattle.node.specs.View.{durable_of}
use Rattle.node.specs.View.{works, IsAskedOf, IsGiven}
use Rattle.node.specs.Member.{me_of, member_of, members_of, tables_of}
use Rattle.node.specs.Recall.{IsRecall}
use Rattle.node.specs.Work.{Work}
use Rattle.node.specs.declared.recall.Recall.{Recall}
use Rattle.node.specs.declared.node.Node.{Node as NodeUp}
use Rattle.node.specs.declared.node.Out.{Out as Taken}
pub use Rattle.node.specs.declared.durable.StoredState.{StoredState}
use Rattle.answer.specs.declared.Answer.{Answer}
use Rattle.answer.specs.Answers.{answer_of, columns_in}
use Rattle.sqlchecks.specs.Columns.{Tables}
use Rattle.sqlread.specs.Shapes.{QueryShape, query_of}
use Rattle.sqlread.specs.Meaning.{language_of, select_of}
use Rattle.world.specs.declared.event.Event.{Event as Given}
use Rattle.world.specs.declared.event.Event.TheVariants.{Hand, Deliver, Stop, Start, Torn, Ask}
use Rattle.world.specs.declared.output.Output.{Output as Out}
use Rattle.world.specs.declared.output.Output.TheVariants.{Sent as SentOut, Applied as AppliedOut, Refused as RefusedOut, Answered as AnsweredOut}
use Rattle.world.specs.declared.group.Group.{Group}
use Rattle.world.specs.declared.seat.Seat.{Seat}
use Rattle.world.specs.declared.seat.Seat.TheVariants.{Up, Down}

-- ---- events and outputs

abbrev pub event_of : Given → Event
event_of (Hand m input) = model.Hand m input
event_of (Deliver k reading) = model.Deliver k reading
event_of (Stop m) = model.Stop m
event_of (Start m) = model.Start m
event_of (Torn m job left) = model.Torn m job left
event_of (Ask m query) = model.Ask m (select_of (query_of query))

abbrev pub output_of : Out → Output
output_of (SentOut number message) = Sent number message
output_of (AppliedOut m told) = Applied m told
output_of (RefusedOut m refusal) = Refused m refusal
output_of (AnsweredOut m answer) = Answered m (answer_of answer)

abbrev pub outputs_of : List Out → List Output
outputs_of = map output_of

-- an answer has the columns of the table at this place
abbrev pub HasColumns : Tables → ℕ → Out → Type 0
HasColumns tables table (AnsweredOut m answer) = answer.columns.items ≡ columns_in tables table
HasColumns tables table out = Unit {0}

-- what an Ask gives has the columns of the table that was asked
abbrev pub ShowsColumns : Tables → Given → List Out → Type 0
ShowsColumns tables (Ask m query) outs = All (HasColumns tables query.table) outs
ShowsColumns tables event outs = Unit {0}

-- each of these events, with what it gives in its turn
abbrev pub EachShowsColumns : Tables → List Given → List (Vec Out Global) → Type 0
EachShowsColumns tables events outs = (k : ℕ) (e : Given) (out : Vec Out Global) → slice_get events k ≡ Some e → slice_get outs k ≡ Some out → ShowsColumns tables e out.items

-- ---- a member

-- a member that is down, with this stored
abbrev pub at_rest : Durable → Node
at_rest d = stopped (record (fresh d.hard.term d.hard.vote) { floor = d.hard.floor; log = d.log })

abbrev pub node_in : Seat → Node
node_in (Up x) = member_of x
node_in (Down image recall) = at_rest (stored_in image)

-- what a seat has of a member that is up
pub record Occupant : Type 0 where
  pub tables : Tables
  pub members : ℕ
  pub me : ℕ
  pub is_up : Bool

abbrev pub occupant_of : {K I : Type 0} {g : _} {s : _} → NodeUp K I g s → Occupant
occupant_of x = record { tables = tables_of x; members = members_of x; me = me_of x; is_up = x.is_up }

abbrev pub occupant : Seat → Option Occupant
occupant (Up x) = Some (occupant_of x)
occupant (Down image recall) = None

-- member m of n, which no step took down
pub record IsMember (tables : Tables) (n m : ℕ) (o : Occupant) : Type 0 where
  pub is_up : o.is_up ≡ true
  pub schema : o.tables ≡ tables
  pub members : o.members ≡ n
  pub me : o.me ≡ m

-- what a seat has of a member that is down
abbrev pub rest : Seat → Option Durable
rest (Up x) = None
rest (Down image recall) = Some (stored_in image)

-- and what it recalls of what it had applied
abbrev pub recalled : Seat → Option Recall
recalled (Up x) = None
recalled (Down image recall) = recall

-- the seat of member m of n: who is up is that member, and what one that is down has stored forms its log, and what it recalls is of these tables
pub record IsSeat (tables : Tables) (n m : ℕ) (s : Seat) : Type 0 where
  pub up : ForSome (occupant s) (IsMember tables n m)
  pub down : ForSome (rest s) (IsLog n (language_of tables))
  pub recall : ForSome (recalled s) (IsRecall tables)

-- what the definitions say of this work at member m, which refuses all while it is down
abbrev pub works_at : Tables → ℕ → ℕ → Work → Node → Effect
works_at schema n m work x = if x.up then works schema n m work x else Refuses NodeDown

-- a step that takes member m from x to y
abbrev pub IsStep : Language → ℕ → Node → Node → Effect → Result Taken Refusal → Type 0
IsStep schema m x y effect (Ok out) = IsGiven x y effect out × (map (Applied m) out.told.items ≡ tells schema m x y)
IsStep schema m x y effect (Err refusal) = (Refuses refusal ≡ effect) × (y ≡ x)

-- ---- what is told of a member: nothing of one that is down, or not there

abbrev pub if_up : Option Node → Option Node
if_up None = None
if_up (Some x) = if x.up then Some x else None

abbrev pub durable_in : Option Node → Option StoredState
durable_in member = option_map (λ x. stored_of (durable_of x)) (if_up member)

-- none outside the log
abbrev pub entry_in : ℕ → Option Node → Option Entry
entry_in i member = option_and_then (λ x. nth x.log i) (if_up member)

abbrev pub commit_in : Option Node → Option ℕ
commit_in member = option_map (λ x. x.commit) (if_up member)

-- what it answers at its closed time, by whether it is up
abbrev pub IsAskedAt : Language → QueryShape → Node → Bool → Result Answer Refusal → Type 0
IsAskedAt schema q x true r = IsAskedOf schema q (applied x) (closed_time x) r
IsAskedAt schema q x false r = r ≡ Err NodeDown

-- ---- a group

abbrev pub nodes_of : List Seat → List Node
nodes_of = map node_in

abbrev pub world_of : Group → World
world_of g = record { nodes = nodes_of g.seats.items; sent = g.sent.items }

-- the seats of the members from 1 to n
pub record IsGroup (tables : Tables) (n : ℕ) (seats : List Seat) : Type 0 where
  pub few : n ≤ 7
  pub all : length seats ≡ n
  pub each : (k : ℕ) (s : Seat) → slice_get seats k ≡ Some s → IsSeat tables n (k + 1) s

-- the world after work was brought to a member, if there is one
abbrev pub brings : Tables → ℕ → World → ℕ → Work → Option Node → World
brings schema n w m work None = w
brings schema n w m work (Some x) = done w m (works_at schema n m work x)

-- and what that gives
abbrev pub brought : Tables → ℕ → World → ℕ → Work → Option Node → List Output
brought schema n w m work None = []
brought schema n w m work (Some x) = effect_gives (language_of schema) w m x (works_at schema n m work x)

-- a group in the world after these events, which began before any term
pub record IsRun (g : Group) (events : List Given) : Type 0 where
  pub group : IsGroup g.schema g.members g.seats.items
  pub world : world_of g ≡ run (language_of g.schema) g.members (new_world g.members) (map event_of events)
